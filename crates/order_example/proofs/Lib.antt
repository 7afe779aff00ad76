pub mod Certificates
pub mod Example
pub mod Symbols
pub mod Votes
