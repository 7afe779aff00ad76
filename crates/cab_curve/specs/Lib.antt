pub mod First
pub mod Equation
pub mod Points
pub mod Functions
pub mod Domain
pub mod DomainLaws
pub mod NormalForms
pub mod Relation
