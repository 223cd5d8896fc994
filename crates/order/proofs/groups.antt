-- `Below`: how many are below a key, and the turns of a search. `Groups`: a group is what has its number in front.
pub mod Below
pub mod Groups
