pub mod Lines
pub mod Sessions
pub mod Writers
pub mod Reading
pub mod Steps
