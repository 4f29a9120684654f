-- The laws of setups one setting off.
pub mod Seeking
