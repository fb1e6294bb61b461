pub mod Kinds
pub mod Sheets
pub mod Columns
pub mod Laws
pub mod Written
pub mod Causes
