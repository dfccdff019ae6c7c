pub mod Choice
pub mod Bytes
pub mod Parts
pub mod Table
