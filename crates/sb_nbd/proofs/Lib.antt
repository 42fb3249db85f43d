pub mod Filled
pub mod RequestParts
pub mod OptionParts
pub mod OneForm
pub mod Cuts
pub mod InfoParts
pub mod OneAnswer
