pub mod Least
pub mod Rows
pub mod Accepted
pub mod Tables
pub mod Calls
pub mod Sums
pub mod Relations
pub mod NormalLists
