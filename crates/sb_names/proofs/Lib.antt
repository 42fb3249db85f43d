pub mod HexFronts
pub mod NameLemmas
