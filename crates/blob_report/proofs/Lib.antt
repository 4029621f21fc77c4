mod Printings
mod Showings
mod Damages
mod Checkings
mod Checks
mod Openings
