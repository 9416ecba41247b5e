-- What renumbered nodes, and other loose nodes, leave the same.
pub mod Alike
pub mod Numbers
pub mod Welds
pub mod Findings
pub mod Cells
pub mod Models
pub mod Accepting
pub mod Renumbered
pub mod Dropped
pub mod LooseNodes
pub mod Trials
