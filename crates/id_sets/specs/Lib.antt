pub mod Ids
pub mod IdLaws
