-- What is asked of the blocks of a run, beside what its meaning answers.
use Rattle.std.specs.Prelude.{◌≡◌, List, Option, Result, Ok, Err}
use Rattle.vg_base.specs.declared.event.UndefKind.{UndefKind}
use Rattle.vg_base.specs.declared.event.UndefKind.TheVariants as undef
use Rattle.vg_base.specs.declared.event.Fault.{Fault}
use Rattle.vg_base.specs.declared.event.Fault.TheVariants.{Refused, Memory}
use Rattle.c_meaning.specs.declared.cell.Cell.{Cell}
use Rattle.c_meaning.specs.declared.cell.Cell.TheVariants.{Null, Unset}
use Rattle.c_meaning.specs.State
use Rattle.c_meaning.specs.Blocks.{Answer}
use Rattle.cell_heap.specs.States.{heap_of}

-- what is got is the value that is meant, and a refusal is the one that is meant; want of memory says nothing
abbrev pub Answers : {A B : Type 0} → (A → B) → Result A (Fault UndefKind) → Answer B → Type 0
Answers seen (Ok a) answer = answer ≡ Ok (seen a)
Answers seen (Err (Refused u)) answer = answer ≡ Err u
Answers seen (Err Memory) answer = Unit {0}

-- something holds of each run with these blocks
abbrev pub InRuns : List (Option (List Cell)) → (State.State → Type 0) → Type 0
InRuns heap holds = (s : State.State) → heap_of s ≡ heap → holds s

-- why a cell that is no pointer leads nowhere
abbrev pub no_pointer : Cell → UndefKind
no_pointer Null = undef.Null
no_pointer Unset = undef.Unset
no_pointer c = undef.Kind
