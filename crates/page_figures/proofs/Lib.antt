pub mod SumLaws
pub mod ColumnSums
pub mod FigureLaws
