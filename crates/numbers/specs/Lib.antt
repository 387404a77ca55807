pub mod Choice
pub mod Numbers
pub mod Rows
pub mod Lists
