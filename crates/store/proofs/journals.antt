pub mod Reading
pub mod Counting
pub mod Keys
pub mod Places
pub mod FirstFiles
