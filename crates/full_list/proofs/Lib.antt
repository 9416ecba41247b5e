-- Laws of the full list.
pub mod Shown
pub mod Cells
pub mod Whole
pub mod Ways
