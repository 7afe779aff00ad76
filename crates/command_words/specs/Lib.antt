pub mod Numerals
pub mod Built
pub mod Options
pub mod Reading
pub mod Lines
pub mod Laws
