pub mod Post
pub mod Chains
pub mod Found
