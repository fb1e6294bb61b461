pub mod Conditions
pub mod Quantities
pub mod Records
pub mod CellSpellings
pub mod PartSpellings
pub mod Columns
pub mod Rows
pub mod Fitting
