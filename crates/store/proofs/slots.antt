pub mod Widths
pub mod Held
pub mod Sorted
pub mod Zeros
pub mod Runs
