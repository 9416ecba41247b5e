-- For internal contracts: the cells of a model.
pub mod Cells
