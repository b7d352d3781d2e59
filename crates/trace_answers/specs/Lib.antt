pub mod Calls
pub mod Answering
