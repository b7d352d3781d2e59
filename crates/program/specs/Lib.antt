pub mod Program
pub mod KeyLaws
