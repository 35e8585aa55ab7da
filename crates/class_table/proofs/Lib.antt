pub mod ChainLemmas
pub mod SlotLemmas
pub mod MemberLemmas
pub mod Examples
