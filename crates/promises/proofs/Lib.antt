pub mod Refused
pub mod Stores
pub mod Filing
pub mod Writing
pub mod Entries
pub mod Past
pub mod Asking
pub mod Demands
