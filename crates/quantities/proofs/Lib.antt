pub mod Decided
pub mod Rounded
mod Shape
mod Weights
mod Words
