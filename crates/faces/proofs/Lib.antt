-- Laws of where a face's ring lies.
pub mod Rings
pub mod Bounds
pub mod Polyhedra
pub mod Spanning
pub mod Standing
pub mod Finding
pub mod Lookups
