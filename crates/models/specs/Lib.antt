-- Several models over one diagram.
pub mod Pairs
pub mod Inner
