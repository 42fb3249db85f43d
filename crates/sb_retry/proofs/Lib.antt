pub mod Left
pub mod Trying
pub mod Loops
