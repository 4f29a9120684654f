-- The laws of the way of a setup, and of the two sides of an edge.
pub mod Walking
pub mod Forking
