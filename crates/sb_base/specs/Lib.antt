pub mod Lines
pub mod Shapes
pub mod Ranges
pub mod SettingsTable
pub mod Sizes
