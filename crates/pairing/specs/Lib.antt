pub mod Paired
pub mod Stale
pub mod Statements
