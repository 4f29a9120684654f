-- The laws of filling the sheet and of counting by it, in the terms of the code.
pub mod Places
pub mod Shares
pub mod Filling
