pub mod FillLaws
pub mod ScanLaws
pub mod ReadLaws
