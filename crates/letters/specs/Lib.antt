pub mod Bytes
pub mod BytesLaws
