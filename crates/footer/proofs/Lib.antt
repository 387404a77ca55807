pub mod FillLaws
pub mod OpeningLaws
pub mod PayloadLaws
pub mod ReadLaws
pub mod Outcomes
