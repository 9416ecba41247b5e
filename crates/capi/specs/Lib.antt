-- What the exported operations promise.
pub mod Version
pub mod Written
pub mod Files
pub mod Checks
pub mod FaceRings
pub mod Nodes
pub mod Reports
pub mod Status
