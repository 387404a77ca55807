pub mod TextLaws
pub mod ShownLaws
pub mod NameLaws
pub mod Statements
