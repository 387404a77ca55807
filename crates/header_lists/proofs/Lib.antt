pub mod LaidLaws
pub mod KeptLaws
