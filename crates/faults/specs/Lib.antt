pub mod Cause
pub mod Cut
pub mod Field
pub mod Six
pub mod Record
pub mod Examples
