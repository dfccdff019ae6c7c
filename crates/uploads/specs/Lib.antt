pub mod Upload
pub mod Inner
