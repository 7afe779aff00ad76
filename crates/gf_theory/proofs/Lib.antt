pub mod Xor
pub mod Clmul
pub mod Degree
pub mod Remainder
pub mod Division
pub mod Product
pub mod Inverse
pub mod Steps
pub mod Factors
pub mod Laws
pub mod Bits
mod Examples
pub mod Powers
pub mod Fields
