pub mod Places
pub mod Types
pub mod Sound
pub mod Names
