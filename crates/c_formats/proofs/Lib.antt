pub mod ReaderLemmas
pub mod ArgumentLemmas
pub mod WritingLemmas
