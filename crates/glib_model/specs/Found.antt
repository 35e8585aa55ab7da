-- Which block a pointer leads to.
use Rattle.std.specs.Prelude.{◌≡◌, ℕ, List, Option}
use Rattle.c_meaning.specs.declared.cell.Cell.{Cell}
use Rattle.c_meaning.specs.State
use Rattle.c_meaning.specs.Blocks.{Answer, bind}
use Rattle.c_meaning.specs.BlockRows.{Found, found, where_it_is, is_freed_by_g_free}
use Rattle.glib_model.specs.declared.kinds.Mark.{Mark}
use Rattle.glib_model.specs.Kinds.{Sees, numbered}

-- what `g_slice_free` takes
abbrev pub sliced : State.State → Cell → Answer Found
sliced s c = bind (found s c) (λ f. where_it_is f.block.is_sliced f)

-- what `g_free` takes
abbrev pub freeable : State.State → Cell → Answer Found
freeable s c = bind (found s c) (λ f. where_it_is (is_freed_by_g_free f.block) f)

-- a number, or a refusal, is that of what is found in each run with the heap and the marks
abbrev pub NumberOf : Answer ℕ → (State.State → Answer Found) → List (Option (List Cell)) → List (Option Mark) → Type 0
NumberOf result finds heap marks = (s : State.State) → Sees s heap marks → result ≡ numbered (finds s)
