pub mod Records
pub mod Sheets
