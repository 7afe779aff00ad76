pub mod Table
pub mod Values
pub mod Shifts
pub mod Listings
pub mod Columns
pub mod Kept
