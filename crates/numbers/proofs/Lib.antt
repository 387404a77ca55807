pub mod Choice
pub mod Table
pub mod Numbers
pub mod Parts
pub mod Lists
