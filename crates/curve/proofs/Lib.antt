mod TermPlaces
pub mod Parts
mod PassedPoints
mod SlopeRates
