pub mod Xor
pub mod Linear
pub mod Register
pub mod Shifts
pub mod Quotient
