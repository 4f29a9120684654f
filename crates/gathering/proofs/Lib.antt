-- The laws of gathering nodes.
pub mod Laying
pub mod Meeting
pub mod Turning
pub mod Reaching
