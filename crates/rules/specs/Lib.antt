pub mod Attributes
pub mod Standard
pub mod Departures
pub mod Lowered
pub mod AttributeLaws
pub mod Places
