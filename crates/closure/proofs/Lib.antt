-- Laws of the walk in the scratch, a file for each stretch of it.
pub mod Reading
pub mod Turning
pub mod Sums
pub mod Running
pub mod Requests
pub mod Final
