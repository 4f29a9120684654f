-- Case distinctions, and the laws of words and of bytes.
pub mod Cases
pub mod Laws
pub mod Swaps
pub mod Bytes
pub mod Stores
