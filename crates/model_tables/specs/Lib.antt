-- For internal contracts: where the tables of a model stand.
pub mod Planned
