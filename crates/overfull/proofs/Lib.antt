-- Laws on faces with the same key.
pub mod Keys
pub mod Members
pub mod Nodes
pub mod Counted
pub mod Found
pub mod Listing
pub mod Keeping
