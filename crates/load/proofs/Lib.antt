pub mod Feeds
pub mod Endings
pub mod Appending
pub mod Members
pub mod Takings
pub mod Verdicts
