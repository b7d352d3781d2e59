pub mod Numbers
pub mod Stretches
