-- Internal contracts on the owners of a face.
pub mod Holding
pub mod Noted
