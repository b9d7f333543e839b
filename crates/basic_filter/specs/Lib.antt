pub mod Number
pub mod Texts
pub mod Condition
pub mod Hiding
pub mod Following
