pub mod TiesLemmas
pub mod WalkLemmas
pub mod WalkLaws
pub mod FitsLemmas
pub mod FitsLaws
pub mod ChangesLaws
