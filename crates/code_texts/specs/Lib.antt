pub mod Texts
pub mod Designs
