-- The laws of Pascal's triangle, and of setups by how many settings are on.
pub mod Pascal
pub mod Weights
