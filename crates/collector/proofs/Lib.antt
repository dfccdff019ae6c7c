mod Search
pub mod Laws
pub mod Cut
pub mod Lumps
