pub mod Field
pub mod Sums
