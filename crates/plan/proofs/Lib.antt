pub mod Rostered
pub mod Sizes
pub mod Planning
