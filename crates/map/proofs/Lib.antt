pub mod Ways
pub mod Sound
pub mod Laws
