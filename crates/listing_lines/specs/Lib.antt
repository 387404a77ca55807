pub mod Line
pub mod Room
