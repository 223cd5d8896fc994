pub mod Records
pub mod Reads
pub mod entry_slots
pub mod journals
pub mod numbers
