-- What functions do that take the input and the quarks.
use Rattle.std.specs.Prelude.{◌≡◌, ℕ, List, Option}
use Rattle.c_meaning.specs.declared.cell.Cell.{Cell}
use Rattle.c_meaning.specs.State
use Rattle.c_meaning.specs.BlockRows.{TypeArgument, g_quark_from_static_string, vala_rt_read_line}
use Rattle.cell_heap.specs.States.{heap_of}
use Rattle.glib_model.specs.declared.kinds.Mark.{Mark}
use Rattle.glib_model.specs.declared.ends.LibEnd.{LibEnd}
use Rattle.glib_model.specs.Kinds.{Sees}
use Rattle.glib_model.specs.Ends.{Tells}

-- the answer is that of `vala_rt_read_line` in each run with that input, of which the rest is left
abbrev pub IsLine : List ℕ → List ℕ → List Cell → List (Option (List Cell)) → List (Option Mark) → List (Option (List Cell)) → LibEnd → Type 0
IsLine input rest args old marks new answer =
    (s : State.State) (t : TypeArgument) → Sees s old marks → s.input ≡ input → Tells (record s { input = rest }) (vala_rt_read_line s t args) new answer

-- the answer is that of `g_quark_from_static_string` in each run with the quarks so far, to which a new one is added
abbrev pub IsQuark : List (List ℕ) → List (List ℕ) → List Cell → List (Option (List Cell)) → LibEnd → Type 0
IsQuark before after args heap answer =
    (s : State.State) (t : TypeArgument) → heap_of s ≡ heap → s.quarks ≡ before → Tells (record s { quarks = after }) (g_quark_from_static_string s t args) heap answer
