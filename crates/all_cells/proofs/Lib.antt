-- Laws of the passes over the cells.
pub mod Passing
pub mod Words
