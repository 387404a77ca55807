pub mod Naming
pub mod HeaderNumbers
pub mod FooterNumbers
pub mod PageListNumbers
pub mod PairingNumbers
pub mod Refusals
pub mod Examples
