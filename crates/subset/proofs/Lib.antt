pub mod Call
pub mod Rewriting
pub mod Cutting
pub mod Scratch
pub mod Lengths
pub mod Whole
pub mod Ways
