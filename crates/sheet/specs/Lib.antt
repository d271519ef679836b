pub mod Calls
pub mod CheckLaws
pub mod Examples
pub mod Mistakes
pub mod Played
pub mod Refusals
pub mod Runs
pub mod Views
