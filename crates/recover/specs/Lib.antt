pub mod Faults
pub mod Frames
pub mod Turns
pub mod Openings
