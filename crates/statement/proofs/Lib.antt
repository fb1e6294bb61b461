pub mod Placed
pub mod Cells
pub mod Digits
pub mod SameText
