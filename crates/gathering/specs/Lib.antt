-- The nodes that a loose table leads to.
pub mod Inner
