-- A diagram numbered anew.
pub mod Renewal
pub mod Numbered
