mod AnswerLemmas
mod LeastLemmas
mod Tests
mod FindValues
mod FindStatements
pub mod FindUnits
mod Peel
mod Texts
