pub mod Replays
pub mod DiskLaws
pub mod Areas
