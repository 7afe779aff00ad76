pub mod Bounds
pub mod Radius
pub mod Encoded
pub mod Decoded
pub mod Drawn
