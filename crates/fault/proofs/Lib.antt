pub mod Group
pub mod Places
