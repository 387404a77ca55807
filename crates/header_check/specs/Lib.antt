pub mod Parented
