pub mod Solutions
