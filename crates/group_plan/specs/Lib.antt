pub mod Plans
pub mod Takings
pub mod Touches
pub mod Frees
pub mod Places
pub mod Judgements
pub mod Groups
