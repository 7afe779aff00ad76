pub mod Checks
pub mod Marked
pub mod Blocks
pub mod Laws
pub mod Examples
