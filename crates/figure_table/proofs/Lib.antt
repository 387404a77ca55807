pub mod ShownLaws
pub mod NumeralLaws
pub mod RowLaws
pub mod Examples
