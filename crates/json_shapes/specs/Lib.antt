pub mod Faults
pub mod Reading
pub mod Members
pub mod Shapes
pub mod Scalars
pub mod Words
pub mod Masks
