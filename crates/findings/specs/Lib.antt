-- The findings of a model, and the check.
pub mod Findings
pub mod Rules
pub mod Records
pub mod Check
pub mod Candidates
pub mod Compared
pub mod Demand3
