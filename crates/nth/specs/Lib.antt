pub mod Nth
pub mod NthLaws
