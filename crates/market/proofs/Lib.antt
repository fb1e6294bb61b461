pub mod Parts
pub mod Put
mod Room
