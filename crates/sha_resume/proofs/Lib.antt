pub mod Words
pub mod Schedule
pub mod Ends
pub mod Agreement
