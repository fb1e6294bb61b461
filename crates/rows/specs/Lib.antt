pub mod Forms
pub mod Days
pub mod Percentages
pub mod Points
pub mod Prices
pub mod Positions
pub mod Columns
pub mod Laws
