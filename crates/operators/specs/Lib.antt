pub mod Operators
pub mod Standard
pub mod SplitLaws
pub mod OperatorLaws
