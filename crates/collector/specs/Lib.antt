pub mod Search
pub mod Collector
pub mod Lumps
