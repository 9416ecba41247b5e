-- Laws that belong to no one function.

pub mod Condition
pub mod Read
pub mod Searching
pub mod Merging
pub mod Skipping
pub mod Tallies
