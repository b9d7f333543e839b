pub mod WholeTextLemmas
pub mod FilterLemmas
