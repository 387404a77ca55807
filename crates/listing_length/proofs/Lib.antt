pub mod Sums
pub mod Records
pub mod Lines
pub mod Statements
