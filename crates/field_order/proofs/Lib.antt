pub mod Holding
pub mod Linking
pub mod Entering
pub mod Walking
pub mod Ordering
