pub mod Register
