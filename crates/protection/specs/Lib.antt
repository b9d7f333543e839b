pub mod Editors
pub mod Denial
pub mod Listed
pub mod Patch
pub mod Following
pub mod Sweep
pub mod Settled
pub mod Faults
