-- The laws of the way down to the setup of a rank.
pub mod Beginning
pub mod Settings
pub mod Choosing
pub mod Opening
pub mod Ways
