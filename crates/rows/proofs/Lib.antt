pub mod TableLaws
pub mod RowLaws
pub mod FirstRows
pub mod FrontRows
