-- What the tables say of the keys and node sets of faces.
pub mod Unique
pub mod Keys
pub mod Putting
pub mod Remaining
