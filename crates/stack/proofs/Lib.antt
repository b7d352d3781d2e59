pub mod Loops
pub mod Bearers
