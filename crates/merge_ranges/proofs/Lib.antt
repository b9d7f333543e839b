pub mod Rectangles
pub mod Lists
pub mod Ordered
pub mod Merging
pub mod Changing
pub mod Covering
