pub mod Seen
pub mod Starts
pub mod Showing
