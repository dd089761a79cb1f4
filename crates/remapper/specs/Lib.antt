-- What the functions do to the scratch, and what the scratch then holds.
pub mod Scratch
pub mod State
