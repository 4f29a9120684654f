-- The laws of the settings that rule a setup out.
pub mod Digits
pub mod Turning
pub mod Following
pub mod Seeking
pub mod Begins
pub mod Ruled
pub mod Found
pub mod Answering
pub mod Theorems
