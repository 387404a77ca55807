pub mod Plane
pub mod Join
