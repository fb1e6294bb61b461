pub mod Curves
pub mod Points
pub mod Discounted
pub mod Slopes
