pub mod Finding
pub mod Places
pub mod Found
pub mod Map
pub mod Root
