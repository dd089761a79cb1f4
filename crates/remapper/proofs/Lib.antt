-- Laws of the scratch, a file for each matter: the ring, the rows, what waits, what is numbered, the fills, and what clears them.
pub mod Ring
pub mod Rows
pub mod Waiting
pub mod Numbering
pub mod Asking
pub mod Fills
pub mod Clears
