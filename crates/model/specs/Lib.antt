-- Document 01 as definitions, in its words and in its order. Every other crate rests on these.
pub mod Res
pub mod Bytes
pub mod Font
pub mod Outline
pub mod Walk
pub mod Glyf
pub mod Metrics
pub mod Name
pub mod Post
pub mod File
pub mod Cut
pub mod Call
pub mod Samples
