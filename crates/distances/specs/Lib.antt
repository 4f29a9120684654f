-- The distance of two setups, and which setup is nearest.
pub mod Distance
pub mod Inner
