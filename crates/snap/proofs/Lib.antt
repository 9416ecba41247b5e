-- Laws of the welding.
pub mod Order
pub mod Squares
pub mod Parts
pub mod NodeRows
pub mod Groups
pub mod Between
pub mod Marks
pub mod Taking
pub mod Turn
pub mod Whole
