pub mod Pauses
pub mod Schedules
pub mod Transient
pub mod Attempts
