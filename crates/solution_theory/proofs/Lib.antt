pub mod Homogeneous
pub mod Solved
pub mod Scanning
