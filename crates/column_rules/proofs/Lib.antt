pub mod Inside
pub mod TurnLaws
pub mod Ends
pub mod Numbers
pub mod Statements
pub mod SingleCalls
pub mod Unreadable
pub mod Samples
