pub mod Reading
pub mod Fitting
pub mod Keys
pub mod Finding
pub mod Found
