pub mod Passing
pub mod Slips
pub mod Working
pub mod indexing
pub mod overview
