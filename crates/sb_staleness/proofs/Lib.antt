pub mod PastLemmas
pub mod PutLemmas
pub mod ShowingLemmas
