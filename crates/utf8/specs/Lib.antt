pub mod WellFormed
pub mod Walking
pub mod Scalars
pub mod Cases
