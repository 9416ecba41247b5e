-- For internal contracts: how the partly shared pairs of a cell are sought.
pub mod Listing
pub mod Hits
