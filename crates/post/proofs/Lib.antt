pub mod Walk
pub mod Held
pub mod Cut
pub mod Grow
pub mod Found
pub mod Scratch
pub mod Lanes
