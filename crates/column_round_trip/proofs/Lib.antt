pub mod ColumnRoundTrip
pub mod Samples
