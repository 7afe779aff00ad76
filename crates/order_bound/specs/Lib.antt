pub mod Distance
pub mod TableText
pub mod TableForm
pub mod Reading
pub mod Checking
pub mod TableChecks
pub mod Refusals
pub mod Looking
