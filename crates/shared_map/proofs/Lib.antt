pub mod Keys
pub mod Maps
pub mod Ordered
pub mod Parts
