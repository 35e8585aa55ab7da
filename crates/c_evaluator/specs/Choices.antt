-- What is found among choices.
use Rattle.std.specs.Prelude.{◌≡◌, ℕ, List, Option, Some, None, Result, Ok, Err}
use Rattle.vg_base.specs.declared.event.UndefKind.{UndefKind}
use Rattle.vg_base.specs.declared.event.Fault.{Fault}
use Rattle.vg_base.specs.declared.event.Fault.TheVariants.{Refused, Memory}
use Rattle.c_meaning.specs.State
use Rattle.c_meaning.specs.Blocks.{Answer}
use Rattle.c_code.specs.Looks.{Heap}
use Rattle.c_code.specs.Coded.{Eval, Chosen, chosen, value_by}
use Rattle.c_code.specs.declared.value.Value.{Value}
use Rattle.c_evaluator.specs.Parts.{in_kinds}
use Rattle.c_code.specs.Values.{value_seen}

-- A value that is found is what the choices come to, and none that they come to what stands behind them. A refusal is
-- theirs; want of memory says nothing.
abbrev pub Comes : Result (Option Value) (Fault UndefKind) → Answer State.Value → Answer State.Value → Type 0
Comes (Ok (Some v)) choices behind = choices ≡ Ok (value_seen v)
Comes (Ok None) choices behind = choices ≡ behind
Comes (Err (Refused u)) choices behind = choices ≡ Err u
Comes (Err Memory) choices behind = Unit {0}

-- the same whatever value stands behind the choices
abbrev pub Finds : List Chosen → Heap → ℕ → Result (Option Value) (Fault UndefKind) → Type 0
Finds cs heap frame found = (e : Eval) → Comes found (chosen heap frame cs e) (in_kinds cs (value_by e heap frame))
