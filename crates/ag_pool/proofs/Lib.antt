pub mod Bands
pub mod Schedules
