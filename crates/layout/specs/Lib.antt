-- For internal contracts: what the check's work slice holds.
pub mod Tables
pub mod ByCell
pub mod Shown
pub mod Kept
pub mod Once
pub mod Views
