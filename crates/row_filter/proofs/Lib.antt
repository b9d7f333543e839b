pub mod Found
pub mod Criteria
