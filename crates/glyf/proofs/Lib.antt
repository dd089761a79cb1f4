-- Laws about the kept outlines and their tables.
pub mod Puts
pub mod Runs
pub mod Composite
pub mod Pieces
pub mod Tables
pub mod Writing
pub mod Walked
