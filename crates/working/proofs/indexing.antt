pub mod Laying
pub mod Grouping
pub mod Marking
pub mod Finding
