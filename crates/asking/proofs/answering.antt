pub mod Readables
pub mod Figures
pub mod Latest
pub mod Roots
pub mod Order
pub mod Stored
pub mod Promises
pub mod Parts
