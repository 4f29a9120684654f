-- The laws of making a loose table proper.
pub mod Nodes
pub mod Copies
pub mod Promised
pub mod Left
pub mod Theorems
