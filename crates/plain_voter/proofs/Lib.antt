pub mod Grids
pub mod Counts
pub mod Steps
pub mod Underway
pub mod Errors
