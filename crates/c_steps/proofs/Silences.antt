-- Whether the next item takes no step.
use Rattle.std.proofs.Common.{◌≡◌, refl, sym, ap, true, false, true≢false, List, [], ◌∷◌, Option, Some, None, is_some}
use Rattle.vg_base.specs.declared.event.CEnd.{CEnd}
use Rattle.c_meaning.specs.State.{Item}
use Rattle.c_code.specs.declared.program.Routine.{Routine}
use Rattle.c_code.specs.Machine.{first_is_silent, is_silent}

pub ended_first : (rs : List Routine) (e : Option CEnd) (is : List Item) → is_some e ≡ true → false ≡ first_is_silent rs e is
ended_first rs (Some e) is some = refl
ended_first rs None is none = absurd (true≢false (sym none))

pub none_first : (rs : List Routine) (e : Option CEnd) (is : List Item) → is ≡ [] → false ≡ first_is_silent rs e is
none_first rs (Some e) is none = refl
none_first rs None is none = sym (ap (first_is_silent rs None) none)

pub some_first : (rs : List Routine) (e : Option CEnd) (is : List Item) (i : Item) (rest : List Item) → is_some e ≡ false → is ≡ i ∷ rest
    → is_silent rs i ≡ first_is_silent rs e is
some_first rs None is i rest none first = sym (ap (first_is_silent rs None) first)
some_first rs (Some e) is i rest none first = absurd (true≢false none)
