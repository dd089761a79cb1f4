pub mod Starts
pub mod Tags
pub mod Found
pub mod Gather
