pub mod Chain
pub mod Computed
