-- The reasons of refusals as an enum.
pub mod Told
