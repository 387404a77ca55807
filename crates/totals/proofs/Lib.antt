pub mod TotalLaws
pub mod Statements
