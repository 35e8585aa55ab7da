-- In what order the calls of an answer come.
use Rattle.std.proofs.Common.{◌≡◌, refl, List, ◌∷◌, []}
use Rattle.c_meaning.specs.declared.cell.Cell.{Cell}
use Rattle.c_meaning.specs.State
use Rattle.c_meaning.specs.State.{Ask}
use Rattle.glib_model.specs.declared.ends.LibCall.{LibCall}
use Rattle.glib_model.specs.declared.ends.LibWhat.TheVariants as what
use Rattle.glib_model.specs.Ends.{asked, finished}

-- the first call stands in front of the others, and these in front of the work there was
pub first_call_first : (s : State.State) (call : LibCall) (more : List LibCall) (rest : List Cell)
    → (finished s (what.Calls (record { calls = call ∷ more; rest = rest }))).work
    ≡ Ask call.func call.args ∷ (finished s (what.Calls (record { calls = more; rest = rest }))).work
first_call_first s call more rest = refl

-- two calls
pub two_calls : (s : State.State) (f g : Cell) (xs ys rest : List Cell)
    → (finished s (what.Calls (record { calls = record { func = f; args = xs } ∷ record { func = g; args = ys } ∷ []; rest = rest }))).work
    ≡ Ask f xs ∷ Ask g ys ∷ s.work
two_calls s f g xs ys rest = refl
