pub mod Parser
pub mod Meaning
pub mod Spelling
pub mod Places
