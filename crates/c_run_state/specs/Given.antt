-- What was given, as a number.
use Rattle.std.specs.Prelude.{◌≡◌, ℤ, Option, Some, None, Result, Ok, Err}
use Rattle.vg_base.specs.declared.event.UndefKind.{UndefKind}
use Rattle.vg_base.specs.declared.event.UndefKind.TheVariants as undef
use Rattle.c_meaning.specs.State.{Value}
use Rattle.c_meaning.specs.Blocks.{Answer, bind}
use Rattle.c_meaning.specs.Numbers.{scalar, number_of}

-- the number that was given
abbrev pub number_given : Option Value → Answer ℤ
number_given None = Err undef.Unset
number_given (Some v) = bind (scalar v) number_of

-- a number that is told is the one that is meant, and so is a refusal; where none is told nothing is said
abbrev pub TellsNumber : Result (Option ℤ) UndefKind → Answer ℤ → Type 0
TellsNumber (Ok (Some z)) answer = answer ≡ Ok z
TellsNumber (Ok None) answer = Unit {0}
TellsNumber (Err u) answer = answer ≡ Err u
