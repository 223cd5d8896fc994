pub mod NameLaws
pub mod NameTrip
