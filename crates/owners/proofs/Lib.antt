-- Laws of the owners of a face.
pub mod Keys
pub mod Loading
pub mod Passing
pub mod Owning
