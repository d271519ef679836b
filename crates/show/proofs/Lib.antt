pub mod Told
pub mod Chained
