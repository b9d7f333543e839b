pub mod Finish
pub mod Folders
pub mod Replaying
pub mod Running
pub mod Serving
pub mod Users
pub mod Working
