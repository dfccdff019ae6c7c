pub mod Packet
pub mod Reply
pub mod Inner
