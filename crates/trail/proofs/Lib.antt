-- The laws of what is kept of a way down.
pub mod Keeping
pub mod Resuming
