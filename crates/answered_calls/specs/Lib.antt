pub mod Answered
pub mod Replied
