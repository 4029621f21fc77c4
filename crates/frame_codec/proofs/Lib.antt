mod Fronts
mod Pieces
mod Followings
mod Standings
mod Readings
mod Rows
mod Risings
mod Entering
