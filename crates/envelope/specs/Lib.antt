pub mod Envelope
pub mod Features
pub mod Answers
