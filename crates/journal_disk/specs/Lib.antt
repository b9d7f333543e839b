pub mod Disk
pub mod Failing
pub mod Laws
pub mod Log
pub mod Memory
pub mod Recorded
pub mod Records
pub mod Faults
