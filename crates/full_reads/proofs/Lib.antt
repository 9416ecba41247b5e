-- What stands in front after a read behind what was read.
pub mod Parts
