pub mod Drafts
pub mod Appends
pub mod Requests
pub mod Txns
pub mod Refusals
pub mod Readings
