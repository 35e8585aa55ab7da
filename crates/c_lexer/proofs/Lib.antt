mod ByteLemmas
mod TextLemmas
pub mod FitLemmas
pub mod NextLemmas
pub mod ListLemmas
pub mod DenotesLemmas
mod NumberLemmas
mod LongestLemmas
mod WrittenLemmas
pub mod CoverLemmas
pub mod SpellingLemmas
mod ExactLemmas
pub mod ApartLemmas
