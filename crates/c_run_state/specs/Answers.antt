-- What an answer of the library does to a run.
use Rattle.std.specs.Prelude.{◌≡◌, ℕ, Bool, true, false}
use Rattle.c_tree.specs.Env.{Env}
use Rattle.c_meaning.specs.State
use Rattle.c_meaning.specs.BlockRows.{slice_thing}
use Rattle.c_code.specs.declared.program.Sliced.{Sliced}
use Rattle.c_code.specs.declared.program.Sliced.TheVariants as sliced
use Rattle.cell_heap.specs.States.{heap_of}
use Rattle.glib_model.specs.declared.ends.LibEnd.{LibEnd}
use Rattle.glib_model.specs.Ends.{Tells}
use Rattle.c_run_state.specs.declared.state.Run.{Run}
use Rattle.c_run_state.specs.Shows.{Books, Shows}

-- AN ANSWER IS DONE: the run whose heap the function changed shows what the answer tells
abbrev pub Applied : LibEnd → Run → Run → Type 0
Applied answer old new = (env : Env) (s after : State.State) → Books env old s → Tells s after old.heap answer → Shows env new after

-- whether a scope, or an activation, is made
abbrev pub is_scope : Sliced → Bool
is_scope sliced.Scope = true
is_scope k = false

abbrev pub is_activation : Sliced → Bool
is_activation sliced.Activation = true
is_activation k = false

-- what `g_slice_new0` makes of so many cells
abbrev pub sliced_by : Sliced → ℕ → State.State → State.State
sliced_by k n s = slice_thing s n (is_scope k) (is_activation k)

-- THE BLOCK THAT `g_slice_new0` MADE is what it makes: the run whose heap has the block shows that
abbrev pub SliceMade : Sliced → Run → Run → Type 0
SliceMade k old new = (env : Env) (s : State.State) (n : ℕ) → Books env old s → heap_of (sliced_by k n s) ≡ old.heap → Shows env new (sliced_by k n s)
