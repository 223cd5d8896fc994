pub mod Reworking
pub mod Listed
pub mod resuming
