pub mod ObjectLemmas
pub mod NameLemmas
