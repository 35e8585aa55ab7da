pub mod CallLemmas
pub mod BodyLemmas
pub mod LabelLemmas
mod NumberLemmas
