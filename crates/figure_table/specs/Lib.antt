pub mod Table
pub mod Numeral
pub mod Examples
