-- The way down to the setup of a rank, setting by setting.
pub mod Settings
pub mod Inner
