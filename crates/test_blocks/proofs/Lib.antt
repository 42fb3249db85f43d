pub mod SlotLemmas
pub mod ChoiceLemmas
