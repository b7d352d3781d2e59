mod Examples
mod Rooms
mod Fitting
-- What the crates above use.
pub mod Records
pub mod Splitting
pub mod Stops
pub mod Cutting
