-- Laws of the model file; UndoEachOther.antt has the theorems on its definitions, RoundTrips.antt those on the operations' promises.
pub mod Numbers
pub mod Fields
pub mod Layouts
pub mod Chop
pub mod Judgement
pub mod Encoded
pub mod Decoded
pub mod Counts
pub mod Accepting
pub mod UndoEachOther
pub mod RoundTrips
