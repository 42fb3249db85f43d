pub mod Amounts
pub mod Workers
