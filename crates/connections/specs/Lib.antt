pub mod Doors
pub mod Calls
pub mod Ports
pub mod Memory
pub mod Alone
pub mod Replied
