-- Laws about the places of an outline: what others cite.
pub mod Flags
pub mod Cases
pub mod Records
pub mod Glyphs
