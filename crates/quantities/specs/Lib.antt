pub mod Refusals
pub mod Ranges
pub mod RangeChecks
pub mod Dates
pub mod Tranches
pub mod Rounding
pub mod Amounts
pub mod Isins
