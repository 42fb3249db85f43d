pub mod Sites
pub mod Operations
pub mod Heads
pub mod Requests
pub mod Laws
