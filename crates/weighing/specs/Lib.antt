pub mod Weighing
pub mod Passing
pub mod Words
