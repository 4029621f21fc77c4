mod Written
mod Owning
