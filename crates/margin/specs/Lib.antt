pub mod Requests
pub mod Program
