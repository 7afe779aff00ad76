pub mod Coprime
pub mod Exponents
pub mod PairCount
