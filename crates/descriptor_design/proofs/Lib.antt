pub mod Least
pub mod Members
pub mod Chosen
pub mod Plainly
pub mod Rules
pub mod Once
