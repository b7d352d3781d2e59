pub mod RowLaws
pub mod TestLaws
