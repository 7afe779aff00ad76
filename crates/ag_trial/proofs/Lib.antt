pub mod Blocks
pub mod Steps
pub mod Counts
pub mod Writes
pub mod Groups
pub mod Images
pub mod Files
