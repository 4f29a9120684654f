-- Writing the parts of a division.
pub mod Operations
pub mod Calls
pub mod Division
