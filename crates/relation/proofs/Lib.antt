pub mod Blocks
pub mod Copies
pub mod Encoded
pub mod Relations
pub mod Searches
pub mod Changings
