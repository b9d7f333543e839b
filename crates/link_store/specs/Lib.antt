pub mod Lists
pub mod Nodes
pub mod Entries
pub mod Lines
pub mod Crossings
pub mod Lending
