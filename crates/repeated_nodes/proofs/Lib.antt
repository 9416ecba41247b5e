-- The nodes of repeated pairs, and pairs read from the scratch.
pub mod Nodes
pub mod Listed
pub mod Scratch
