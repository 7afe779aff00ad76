pub mod Plain
pub mod Tables
pub mod Codes
pub mod SpaceDomains
pub mod PlainLaws
pub mod Monomials
pub mod SpaceMonomials
pub mod Described
