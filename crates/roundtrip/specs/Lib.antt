pub mod RoundTrip
pub mod Inner
pub mod Lumped
