-- For internal contracts: a sorted list without its repeats, and the keys and node sets of all faces.
pub mod Unique
pub mod Sets
