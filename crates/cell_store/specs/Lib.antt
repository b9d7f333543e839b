pub mod Table
pub mod Places
pub mod Entries
pub mod Moved
pub mod Laws
pub mod Kept
pub mod Turning
pub mod TurningLaws
