-- For internal contracts: what the tables of cells hold.
pub mod Owners
