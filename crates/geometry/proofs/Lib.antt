-- Laws of points and coordinates.
pub mod Listed
pub mod Limited
