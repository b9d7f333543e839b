pub mod Folder
pub mod Recorded
pub mod Memory
