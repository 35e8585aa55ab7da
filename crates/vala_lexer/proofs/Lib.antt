mod ByteLemmas
mod FitLemmas
pub mod NextLemmas
pub mod CoverLemmas
mod LongestLemmas
mod WrittenLemmas
mod SpellingLemmas
pub mod DenotedLemmas
