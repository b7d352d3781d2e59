pub mod Tests
pub mod Exceptions
pub mod LoweredLaws
pub mod Examples
pub mod Readings
