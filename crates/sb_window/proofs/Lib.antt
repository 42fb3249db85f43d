pub mod KeptLemmas
pub mod WindowLemmas
pub mod TableLemmas
pub mod EventLemmas
pub mod CountLemmas
pub mod WaitLemmas
