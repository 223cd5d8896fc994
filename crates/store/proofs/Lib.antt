pub mod Ranges
pub mod Checks
pub mod Limits
pub mod Whole
