pub mod Parts
pub mod Lines
pub mod Cells
pub mod Ends
pub mod Numbers
pub mod Laws
