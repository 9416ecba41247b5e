-- For internal contracts: faces with the same key.
pub mod Alike
