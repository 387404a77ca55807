pub mod Stored
pub mod Listed
pub mod Rowed
