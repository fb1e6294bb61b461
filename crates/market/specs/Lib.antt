pub mod Days
pub mod Records
pub mod Contents
