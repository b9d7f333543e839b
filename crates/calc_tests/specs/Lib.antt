pub mod Spreadsheet
