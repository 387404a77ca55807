pub mod Adding
pub mod Figures
pub mod Accepted
pub mod Tests
pub mod Outcomes
pub mod Samples
