pub mod Column
pub mod SingleCalls
pub mod Statements
pub mod Samples
pub mod Answer
