pub mod Workbook
