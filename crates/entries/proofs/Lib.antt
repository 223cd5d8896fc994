pub mod SameLaws
pub mod PlaceChains
