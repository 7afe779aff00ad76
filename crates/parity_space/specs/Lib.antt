pub mod Forms
pub mod Prepared
