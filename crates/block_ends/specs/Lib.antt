pub mod BlockEnds
pub mod Places
