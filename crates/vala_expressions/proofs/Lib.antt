pub mod BracketLaws
pub mod ChainLaws
pub mod NameLaws
pub mod OperandLaws
pub mod Progress
pub mod SuffixLaws
pub mod TierLaws
