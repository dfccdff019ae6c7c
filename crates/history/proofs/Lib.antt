pub mod Calls
pub mod Answered
