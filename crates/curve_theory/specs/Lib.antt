pub mod Semigroup
pub mod Curve
pub mod Normal
pub mod Separation
pub mod Functions
pub mod Polynomial
pub mod Weights
