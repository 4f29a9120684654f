-- Writing a diagram that is numbered anew.
pub mod Emitting
