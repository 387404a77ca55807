pub mod DecimalLaws
pub mod DigitLaws
