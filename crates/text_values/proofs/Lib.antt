mod DenotedSteps
mod DigitLemmas
