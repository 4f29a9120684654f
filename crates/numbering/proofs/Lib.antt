-- The laws of numbering a diagram anew.
pub mod Images
pub mod Renumber
pub mod Plain
pub mod Means
pub mod Names
pub mod Assign
pub mod Going
pub mod Finish
pub mod Keys
pub mod Given
