pub mod ListLaws
pub mod PayloadLaws
pub mod BoundLaws
pub mod HeaderLaws
pub mod PlaceLaws
pub mod Samples
pub mod Statements
pub mod Besides
