pub mod Examples
pub mod SearchLemmas
pub mod AddingLemmas
pub mod DistinctLemmas
pub mod TableLemmas
pub mod TypeLemmas
