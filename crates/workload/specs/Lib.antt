pub mod Table
pub mod Work
