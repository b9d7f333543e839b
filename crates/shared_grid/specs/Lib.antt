pub mod Orders
pub mod Cells
pub mod Sheets
