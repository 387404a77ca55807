pub mod Locator
