pub mod Numbers
pub mod Does
