-- The laws of divisions.
pub mod SpanLaws
pub mod Within
pub mod Parts
pub mod Sharing
pub mod Bounds
