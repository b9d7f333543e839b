pub mod OwnIds
pub mod Entries
pub mod Patching
pub mod UsedIds
pub mod Ordering
