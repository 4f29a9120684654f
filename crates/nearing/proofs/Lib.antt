-- The laws of the distances in the sheet.
pub mod Far
pub mod Entering
pub mod Going
