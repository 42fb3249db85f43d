pub mod Reading
pub mod Writing
pub mod Joins
pub mod Turning
pub mod Inputs
pub mod Negotiating
pub mod Opening
