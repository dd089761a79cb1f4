pub mod Steps
pub mod Sources
