pub mod Conditions
pub mod Criteria
