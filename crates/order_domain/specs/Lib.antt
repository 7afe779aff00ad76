pub mod Points
pub mod Domain
pub mod Functions
pub mod Values
pub mod Line
pub mod LineLaws
