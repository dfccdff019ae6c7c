pub mod Headers
pub mod Writing
