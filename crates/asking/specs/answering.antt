pub mod Figure
pub mod Whole
pub mod Confirmed
