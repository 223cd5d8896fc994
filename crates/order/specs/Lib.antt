pub mod groups
