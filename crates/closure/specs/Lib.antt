-- What the closure's functions promise: of the whole, then of a turn, an outline and the requests.
pub mod Closes
pub mod Turns
