pub mod Ids
pub mod Print
