pub mod Laws
pub mod SizeWord
pub mod Loops
pub mod Cut
