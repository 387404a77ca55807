pub mod PrintedLaws
