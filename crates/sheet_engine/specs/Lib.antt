pub mod Asks
pub mod Answers
pub mod Replay
pub mod Dump
pub mod Answered
