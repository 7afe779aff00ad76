pub mod Compiled
pub mod Benches
pub mod Decoding
pub mod Settling
