pub mod Judged
pub mod Former
pub mod Reading
pub mod Writing
pub mod Cursor
pub mod Values
