pub mod Page
pub mod Widths
pub mod Answer
