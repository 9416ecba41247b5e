-- Internal contracts on rings put into a list.
pub mod Put
