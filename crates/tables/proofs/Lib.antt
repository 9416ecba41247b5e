-- Laws of the tables: written by passes over cells, and read back.
pub mod Lengths
pub mod Passing
pub mod Rows
pub mod Shown
