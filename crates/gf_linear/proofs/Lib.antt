mod BitPasses
pub mod Cleared
pub mod Combinations
pub mod Forms
pub mod Found
pub mod Joins
pub mod Multiples
pub mod Residues
pub mod Sides
pub mod Sixteens
pub mod Steps
pub mod Views
pub mod Wides
pub mod Writes
