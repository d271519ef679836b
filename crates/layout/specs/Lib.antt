pub mod Outlines
pub mod PartSpecs
pub mod Sizes
pub mod Tree
