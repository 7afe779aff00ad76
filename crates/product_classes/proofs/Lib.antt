mod Shifting
mod Places
mod Growth
mod Starts
mod Sums
mod Moves
mod Staircase
