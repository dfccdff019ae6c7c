pub mod Lines
pub mod Step
pub mod Pieces
pub mod Cuts
pub mod Passage
pub mod Sent
pub mod Passing
pub mod Lumped
