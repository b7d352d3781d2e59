pub mod Instructions
pub mod FoundIds
