-- Laws of the tables of a model.
pub mod Sizes
pub mod Welds
pub mod Reading
pub mod Nodes
pub mod Contents
pub mod Ringing
pub mod Facing
pub mod Stages
pub mod Building
pub mod Asking
