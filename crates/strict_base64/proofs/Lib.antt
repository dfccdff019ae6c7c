pub mod Laws
pub mod Pasted
