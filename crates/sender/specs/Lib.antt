pub mod Sender
pub mod Inner
