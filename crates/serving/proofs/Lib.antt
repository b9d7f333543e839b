pub mod Histories
pub mod Courses
pub mod Standing
