pub mod Blocks
pub mod GivingBack
pub mod Walks
pub mod Placements
pub mod Requesting
pub mod Judges
pub mod Adding
pub mod Gathering
