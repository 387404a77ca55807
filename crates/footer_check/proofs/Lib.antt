pub mod AlikeLaws
pub mod Rows
pub mod Whole
