pub mod ColumnLaws
pub mod ScanLaws
