-- Nodes renumbered with their order kept, and loose nodes dropped or added.
pub mod Renumbering
pub mod Dropped
pub mod Loose
