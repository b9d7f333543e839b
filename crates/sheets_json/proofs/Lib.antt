pub mod BodyLemmas
pub mod WholeLemmas
pub mod CallLemmas
pub mod ReadAgain
pub mod MetadataAgain
pub mod ProtectionsAgain
pub mod FiltersAgain
