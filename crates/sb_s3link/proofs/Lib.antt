pub mod Slices
pub mod NamesRead
pub mod ItemsRead
pub mod Agree
