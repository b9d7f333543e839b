pub mod Sweeping
pub mod Ordered
pub mod Places
pub mod Edits
pub mod Fewer
