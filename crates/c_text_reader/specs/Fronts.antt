-- The first of the faults of a whole text, and of one that stops.
use Rattle.std.specs.Prelude.{ℕ, ◌-◌, ◌^◌, nat_lt, Bool, false, if◌then◌else◌, List, [], ◌∷◌, Option, Some, None, Ok}
use Rattle.c_lexer.specs.Tokens.{Answer}
use Rattle.c_tree.specs.declared.kinds.Fault.{Fault}
use Rattle.c_tree.specs.declared.unit.Unit.{Unit as CUnit}
use Rattle.c_tree.specs.Faults.{least, known, unless}
use Rattle.c_tree.specs.Unit.{unit_faults, has_main}
use Rattle.c_tree.specs.Answers.{syntax_at}
use Rattle.c_parser.specs.declared.unit.Stop.{Stop}

-- the first fault that 32 bits can know of a unit, with the end of its text where there is no `main`
abbrev pub whole_first : CUnit → ℕ → Option Fault
whole_first unit n = least (least None (known (2 ^ 32 - 1) (unit_faults unit))) (unless (has_main unit) (known (2 ^ 32 - 1) (syntax_at n ∷ [])))

-- what is found, or else a fault of its own
abbrev pub chosen : Fault → Option Fault → Fault
chosen own None = own
chosen own (Some f) = f

-- the first of what stops a text and of other faults
abbrev pub stopped_first : Stop → List Fault → Fault
stopped_first s fs = chosen s.fault (least (Some s.fault) fs)

-- whether the first token of a text begins in front of a place
abbrev pub first_before : Answer → ℕ → Bool
first_before (Ok (Some t)) place = nat_lt t.start place
first_before a place = false

-- what is known once the token at `last` was taken, where the first token of the text stands in front of the place
abbrev pub known_before : Answer → (place last : ℕ) → List Fault → List Fault
known_before first place last fs = if first_before first place then known last fs else []
