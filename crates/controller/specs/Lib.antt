pub mod Doing
pub mod Handle
pub mod Inner
