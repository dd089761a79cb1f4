pub mod Construct
