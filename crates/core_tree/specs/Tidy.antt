-- What holds of things and owners between any two steps.
use Rattle.std.specs.Prelude.{ℕ, zero, suc, ◌+◌, ◌==◌, ◌&&◌, nat_le, Bool, true, List, [], ◌∷◌, count_by}
use Rattle.vg_base.specs.Machine.{move}
use Rattle.core_tree.specs.declared.program.Core.{Core}
use Rattle.core_tree.specs.State
use Rattle.core_tree.specs.State.{Status, Live, Ending, Gone, ThingState, Parked}
use Rattle.core_tree.specs.Owners.{owns, ends}
use Rattle.core_tree.specs.Step.{meaning}

-- how many places own a thing
abbrev pub owning_places : State.State → ℕ → ℕ
owning_places s t = count_by (owns t) s.places

-- how often its ending stands in the work of parked activations
abbrev pub parked_endings : ℕ → List Parked → ℕ
parked_endings t [] = 0
parked_endings t (p ∷ ps) = count_by (ends t) p.work + parked_endings t ps

-- how often its ending stands in the work, that of parked activations included
abbrev pub endings : State.State → ℕ → ℕ
endings s t = count_by (ends t) s.work + parked_endings t s.parked

-- A live thing has an owner. The ending of an ending thing stands in the work once, and no place owns it.
-- A thing that is gone has neither.
abbrev pub is_tidy_thing : State.State → ℕ → Status → Bool
is_tidy_thing s t Live = nat_le 1 (owning_places s t) && endings s t == 0
is_tidy_thing s t Ending = owning_places s t == 0 && endings s t == 1
is_tidy_thing s t Gone = owning_places s t == 0 && endings s t == 0

-- the same of all things from a serial on
abbrev pub are_tidy : State.State → ℕ → List ThingState → Bool
are_tidy s t [] = true
are_tidy s t (x ∷ xs) = is_tidy_thing s t x.status && are_tidy s (suc t) xs

abbrev pub is_tidy : State.State → Bool
is_tidy s = are_tidy s 1 s.things

-- it holds of a state and of those of so many steps behind it
abbrev pub stays_tidy : Core → ℕ → State.State → Bool
stays_tidy core zero s = is_tidy s
stays_tidy core (suc n) s = is_tidy s && stays_tidy core n (move (meaning core).machine s).0
