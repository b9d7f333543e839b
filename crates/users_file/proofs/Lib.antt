pub mod Bytes
pub mod Fields
pub mod Records
pub mod TableLaws
pub mod Tables
pub mod Tokens
