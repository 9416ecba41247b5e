-- What the tables say of the rings of cells.
pub mod Reading
pub mod Welded
pub mod Cells
