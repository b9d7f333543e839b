pub mod InPlace
pub mod Words
