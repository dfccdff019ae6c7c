pub mod Keys
pub mod Fields
