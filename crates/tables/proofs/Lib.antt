pub mod Lengths
pub mod Order
pub mod Standing
pub mod Bodies
pub mod Presence
