-- What a step by code leaves as it is, and how much it prints.
use Rattle.std.specs.Prelude.{◌≡◌, ℕ, suc, ◌≤◌, Bool, true, false, if◌then◌else◌, List, [], ◌∷◌}
use Rattle.vg_base.specs.declared.event.Event.TheVariants as event
use Rattle.vg_base.specs.Headline.{Said, Happens}
use Rattle.c_meaning.specs.State
use Rattle.c_meaning.specs.State.{Item, Run, Enter, Ask, Keep, Finish}
use Rattle.c_meaning.specs.Values.{Program}
use Rattle.c_code.specs.declared.program.Routine.{Routine}
use Rattle.c_code.specs.Machine.{step}

-- an item that code puts into the work, or that a function of the library asks for
abbrev pub is_own : Item → Bool
is_own (Run f) = true
is_own (Enter n vs) = true
is_own (Ask f cs) = true
is_own (Keep p k) = true
is_own Finish = true
is_own i = false

-- work of such items alone
abbrev pub all_own : List Item → Bool
all_own [] = true
all_own (i ∷ is) = if is_own i then all_own is else false

-- how many prints were said
abbrev pub prints : List Said → ℕ
prints [] = 0
prints (Happens (event.Print stream bytes) ∷ xs) = suc (prints xs)
prints (x ∷ xs) = prints xs

-- After a step the text literals and the static variables stand where they stood, the work is of code's own items, and at most one print was said.
pub record Steady (old new : State.State) : Type 0 where
  pub literals : new.literals ≡ old.literals
  pub statics : new.statics ≡ old.statics
  pub own : all_own new.work ≡ true
  pub prints : prints new.said ≤ 1

abbrev pub StepsAreSteady : Type 0
StepsAreSteady = (rs : List Routine) (p : Program) (s : State.State) → all_own s.work ≡ true → Steady s (step rs p s)
