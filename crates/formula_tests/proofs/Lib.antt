pub mod KnownSheets
