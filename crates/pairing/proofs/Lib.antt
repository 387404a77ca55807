pub mod PairedLaws
pub mod Pairs
