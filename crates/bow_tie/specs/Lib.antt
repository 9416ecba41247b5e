-- Edges that meet, and rings that meet themselves.
pub mod Edges
pub mod BowTie
