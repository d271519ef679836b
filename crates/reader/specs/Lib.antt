pub mod Branches
pub mod Drafts
pub mod Entering
pub mod Judged
pub mod Judging
pub mod Reading
