pub mod Clusters
pub mod Answers
