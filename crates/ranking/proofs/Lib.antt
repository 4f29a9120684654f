-- The laws of ranking and unranking.
pub mod Answering
pub mod Numbering
pub mod Bounds
