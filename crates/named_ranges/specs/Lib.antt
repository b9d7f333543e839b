pub mod NameRule
pub mod Laws
pub mod Given
pub mod Listed
pub mod Following
pub mod Kept
pub mod Faults
