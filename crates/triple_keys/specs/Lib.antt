-- For internal contracts: the keys by which faces are found, and how they are put.
pub mod Keys
pub mod Steps
