-- Pascal's triangle, and setups by how many settings are on.
pub mod Triangle
pub mod Ones
