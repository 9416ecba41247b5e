-- What the definitions of every crate are written in.
pub mod Lists
pub mod Bytes
pub mod Refusals
pub mod Limits
pub mod Merging
