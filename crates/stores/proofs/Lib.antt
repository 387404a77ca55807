pub mod Storing
pub mod Copying
pub mod Sealing
pub mod Laid
pub mod Answers
pub mod Counting
pub mod FramedLaws
