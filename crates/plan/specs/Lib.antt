pub mod LeafFit
pub mod Parses
pub mod Reads
pub mod Writes
pub mod WrittenBack
pub mod WrittenLaws
