-- Laws of pairs, of their order, and of lists whose equal neighbours are dropped.
pub mod PairLaws
pub mod Once
pub mod PairOrder
pub mod Turns
