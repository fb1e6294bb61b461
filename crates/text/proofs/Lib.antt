pub mod Joined
pub mod Numbers
pub mod Parts
pub mod Spelled
pub mod Marks
pub mod CellEnds
