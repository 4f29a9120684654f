-- Words of 64 bits in bytes.
pub mod Words
pub mod Swap
