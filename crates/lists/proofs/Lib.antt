-- The laws of lists: the rules over a whole list, its setups by the way that is kept, and the theorem about each number alone.
pub mod Ranks
pub mod Answering
pub mod Serving
pub mod Alone
pub mod Handing
