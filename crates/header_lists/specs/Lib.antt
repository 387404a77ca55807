pub mod Next
pub mod Kept
