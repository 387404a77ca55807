pub mod Types
pub mod Widths
pub mod Laid
pub mod Decoding
pub mod Encoding
