pub mod Fold
pub mod Spread
pub mod Turn
pub mod Multiples
pub mod CrcVector
