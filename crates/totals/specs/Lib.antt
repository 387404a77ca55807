pub mod Totals
pub mod Statements
