-- Laws that belong to no one function.
pub mod Copied
pub mod Sorted
pub mod RowLaws
pub mod Merging
pub mod Halves
