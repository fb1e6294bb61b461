pub mod Ascending
pub mod Bytes
pub mod Changes
pub mod Compared
pub mod Found
pub mod Shifted
pub mod Places
