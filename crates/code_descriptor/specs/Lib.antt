pub mod FieldTest
pub mod Tree
pub mod Parts
pub mod Built
pub mod Inside
pub mod Tests
pub mod Meaning
pub mod Views
