pub mod Counting
pub mod InsideLaws
pub mod ChainLaws
pub mod Following
pub mod EndlessLaws
pub mod Darkening
pub mod DarkLaws
