-- The laws of the rules, in the terms of the code.
pub mod Headers
pub mod Numbers
pub mod Packing
pub mod Turns
