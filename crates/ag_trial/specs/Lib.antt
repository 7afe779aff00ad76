pub mod Words
pub mod Damage
pub mod Groups
