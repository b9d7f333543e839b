pub mod Staying
pub mod Untouched
pub mod Protected
