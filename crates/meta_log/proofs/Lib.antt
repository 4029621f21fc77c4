pub mod Writings
pub mod Logs
pub mod Readings
pub mod Walks
