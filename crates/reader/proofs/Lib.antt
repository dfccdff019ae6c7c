pub mod Plain
pub mod Laws
pub mod Lines
pub mod Placed
