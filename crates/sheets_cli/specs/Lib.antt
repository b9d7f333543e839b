pub mod Files
pub mod Program
pub mod Standard
pub mod Tcp
