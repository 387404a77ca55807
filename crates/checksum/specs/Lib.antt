pub mod Crc
pub mod Wide
