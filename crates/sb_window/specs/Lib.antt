pub mod LastPuts
pub mod Tables
pub mod Windows
pub mod Events
pub mod Waits
