pub mod Turning
pub mod Codes
