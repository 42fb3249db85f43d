pub mod DateFacts
pub mod EncodingLemmas
pub mod HmacLemmas
pub mod DayKeyLemmas
pub mod OneDate
