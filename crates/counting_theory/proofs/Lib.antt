pub mod Ranks
pub mod Votes
pub mod Majority
pub mod Ballots
pub mod Tally
pub mod Bound
pub mod Examples
pub mod Rows
