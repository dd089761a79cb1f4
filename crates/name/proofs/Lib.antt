-- Laws of the name table by row numbers, of the order of its strings, of their buckets, of the distinct ones, of the new table, and of the room that the first uses take.
pub mod Rows
pub mod Order
pub mod Links
pub mod Strings
pub mod Table
pub mod Uses
