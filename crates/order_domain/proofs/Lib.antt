pub mod Values
pub mod Functions
