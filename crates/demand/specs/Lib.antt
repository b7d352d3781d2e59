-- What is demanded.
pub mod Words
pub mod Sheets
pub mod Statement
-- The machine that the stores stand for.
pub mod Rows
pub mod Decode
pub mod Numbers
pub mod Callers
