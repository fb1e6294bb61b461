pub mod Entering
pub mod BothOrders
pub mod Withdrawing
pub mod ValidLines
pub mod Working
pub mod Promise
pub mod OfIsin
