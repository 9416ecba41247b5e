-- Laws of the search for a cell's partly shared pairs.
pub mod Listing
pub mod Marking
pub mod Searched
pub mod CellSearch
pub mod Told
pub mod Cleared
pub mod Pairing
pub mod Whole
pub mod Left
pub mod InOrder
pub mod Sorted
