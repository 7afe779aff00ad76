pub mod NumeralLemmas
pub mod NameLemmas
pub mod SettingLemmas
pub mod LineLemmas
pub mod Ranges
