-- Laws of the shared definitions.
pub mod Tests
pub mod ListLaws
pub mod Ascending
pub mod Sorting
pub mod Permutations
pub mod Stores
pub mod Rows
pub mod Tables
pub mod Bounds
pub mod ByteLaws
pub mod Members
pub mod Holding
pub mod Lent
