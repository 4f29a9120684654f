-- The laws of marking.
pub mod Spreading
pub mod Marking
