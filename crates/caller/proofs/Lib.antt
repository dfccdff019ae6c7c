pub mod Records
pub mod Handling
pub mod Lines
pub mod Replies
pub mod Lumps
pub mod Bench
