pub mod Progress
pub mod Ring
