pub mod Stands
pub mod Pourings
pub mod Gatherings
pub mod Verifyings
pub mod ReadParts
pub mod Stills
