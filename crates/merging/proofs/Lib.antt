-- The laws of numbering a twice-cut table.
pub mod Order
pub mod Moves
pub mod Lists
pub mod Merge
pub mod Least
pub mod StepCut
pub mod StepTable
pub mod Passing
pub mod Cuts
pub mod Levels
pub mod Ends
