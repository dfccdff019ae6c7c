pub mod Fit
pub mod Memory
pub mod History
