-- The laws of cuts.
pub mod Behind
pub mod Bounds
pub mod Follow
pub mod CutOrder
pub mod CutMeans
pub mod TwoCuts
pub mod Steps
pub mod Cutting
