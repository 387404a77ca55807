pub mod PlaceLaws
pub mod RowLaws
pub mod ChainLaws
