pub mod ColumnRoundTrip
