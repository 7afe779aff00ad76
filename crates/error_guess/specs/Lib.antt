pub mod Guesses
pub mod Rooms
pub mod Kept
