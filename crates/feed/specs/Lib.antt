pub mod Feed
pub mod Rig
