pub mod Trades
pub mod SampleAccounts
pub mod WorkedFigures
pub mod Figures
