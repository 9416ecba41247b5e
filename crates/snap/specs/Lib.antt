-- Welded numbers over a list of nodes. Steps and Walks are for internal contracts only.
pub mod Weld
pub mod Steps
pub mod Walks
