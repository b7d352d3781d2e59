pub mod Loops
pub mod Counts
