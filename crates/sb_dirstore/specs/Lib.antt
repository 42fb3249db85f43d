pub mod Objects
pub mod Names
