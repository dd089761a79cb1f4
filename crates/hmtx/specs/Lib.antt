pub mod Places
pub mod Measures
