-- Laws on common nodes.
pub mod Picking
