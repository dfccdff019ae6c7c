pub mod Walking
pub mod Maps
pub mod Meant
