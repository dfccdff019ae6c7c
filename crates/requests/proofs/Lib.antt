pub mod Sound
pub mod Shorter
