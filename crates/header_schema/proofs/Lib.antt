pub mod ScanLaws
pub mod SchemaLaws
