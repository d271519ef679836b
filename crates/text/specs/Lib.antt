pub mod Bytes
pub mod Decimal
pub mod Names
pub mod Directory
pub mod Parts
pub mod Texts
pub mod Bools
pub mod Numbers
