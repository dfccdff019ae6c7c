pub mod Sequence
