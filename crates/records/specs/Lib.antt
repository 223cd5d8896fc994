pub mod Record
pub mod Worded
pub mod closing
pub mod names
