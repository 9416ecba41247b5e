-- Rows of words, for contracts of the sort by an order.
pub mod Rows
