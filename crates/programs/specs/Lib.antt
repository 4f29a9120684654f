-- What the programs share.
pub mod Laying
pub mod Reading
