pub mod Signed
pub mod Layout
pub mod Inverses
pub mod Strides
