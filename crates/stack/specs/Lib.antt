pub mod Stores
pub mod Laws
pub mod Reads
pub mod Examples
pub mod Lent
