-- What holds while a twice-cut table is numbered anew.
pub mod Inner
