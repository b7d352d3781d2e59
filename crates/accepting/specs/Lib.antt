pub mod Accepting
pub mod Refusing
