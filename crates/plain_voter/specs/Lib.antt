pub mod Sheets
pub mod Ballots
pub mod Lines
pub mod Finds
