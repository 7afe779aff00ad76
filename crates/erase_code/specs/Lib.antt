pub mod Filling
pub mod Equations
pub mod Laws
pub mod Marks
