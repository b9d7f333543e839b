pub mod Following
pub mod Renaming
