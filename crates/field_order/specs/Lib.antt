pub mod Links
pub mod Entered
