-- The laws of counting the setups below a setup.
pub mod Gap
pub mod Stepping
pub mod Below
