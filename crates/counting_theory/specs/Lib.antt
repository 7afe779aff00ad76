pub mod Ranks
pub mod Votes
pub mod Ballots
pub mod Rows
