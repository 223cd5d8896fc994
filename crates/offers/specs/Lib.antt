pub mod Kept
pub mod Offer
