pub mod Matrix
pub mod Cells
pub mod Elimination
pub mod Nibbles
