-- Points, scale, and what is refused of coordinates.
pub mod Points
pub mod Scale
pub mod Coordinates
pub mod Steps
pub mod Nodes
