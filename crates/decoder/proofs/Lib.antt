pub mod Kept
pub mod Steps
pub mod Runs
pub mod Answer
