-- `Parts`: the first n of a list that may have fewer.
pub mod Parts
