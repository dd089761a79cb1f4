pub mod Machine
pub mod Width
pub mod Rows
pub mod Bounds
pub mod List
