pub mod CheckLaws
pub mod Stored
pub mod Limits
pub mod Deciding
