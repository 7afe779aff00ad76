pub mod Linear
pub mod Functionals
pub mod Tables
pub mod Laws
