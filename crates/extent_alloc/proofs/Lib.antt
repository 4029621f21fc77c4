pub mod Rounding
pub mod Orders
pub mod Scans
pub mod Spaces
