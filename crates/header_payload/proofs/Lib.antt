pub mod ListLaws
pub mod PayloadLaws
