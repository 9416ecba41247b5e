-- The repeated nodes of a cell. Marks is for internal contracts only.
pub mod Marks
pub mod Repeats
