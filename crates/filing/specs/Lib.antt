pub mod Effect
pub mod checking
pub mod entering
pub mod fitting
pub mod renewing
