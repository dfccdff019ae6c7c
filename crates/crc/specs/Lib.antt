pub mod Crc
pub mod Inner
