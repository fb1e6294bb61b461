pub mod Keys
pub mod Bytes
pub mod Contents
pub mod Changes
pub mod Search
pub mod Places
