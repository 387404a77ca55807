pub mod Parts
pub mod Runs
pub mod Order
pub mod PageLaws
pub mod ColumnLaws
pub mod WholeLaws
