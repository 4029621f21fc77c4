pub mod Writes
pub mod Values
pub mod Faults
pub mod Fields
pub mod Reading
