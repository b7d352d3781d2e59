pub mod Places
pub mod Text
pub mod DigitLaws
