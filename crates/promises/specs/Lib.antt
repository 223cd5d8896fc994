pub mod Numbers
pub mod InUse
pub mod Calls
pub mod Filed
pub mod Asked
