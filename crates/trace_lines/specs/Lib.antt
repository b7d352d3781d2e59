pub mod Lines
pub mod Cuttings
