pub mod LengthFields
pub mod Records
pub mod Checks
