pub mod Filling
pub mod Joined
pub mod Joins
pub mod Words
pub mod OneByte
