pub mod Act
pub mod History
pub mod Store
