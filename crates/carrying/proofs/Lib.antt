-- The laws of words that carry their nodes.
pub mod Placing
