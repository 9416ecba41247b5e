-- The finding of repeated nodes.
pub mod OfCell
