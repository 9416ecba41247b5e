-- The area test.
pub mod AreaTest
pub mod Steps
