-- How rows go on with what is asked of the run.
use Rattle.std.proofs.Common.{◌≡◌, ◌∙◌, sym, ap, subst, List, [], Option, Result, Ok, Err, IfOk}
use Rattle.vg_base.specs.declared.event.UndefKind.{UndefKind}
use Rattle.vg_base.specs.declared.event.UndefKind.TheVariants as undef
use Rattle.vg_base.specs.declared.event.Fault.{Fault}
use Rattle.vg_base.specs.declared.event.Fault.TheVariants.{Refused, Memory}
use Rattle.c_meaning.specs.declared.cell.Cell.{Cell}
use Rattle.c_meaning.specs.State
use Rattle.c_meaning.specs.Blocks.{Answer, on}
use Rattle.c_meaning.specs.BlockRows.{Does, TypeArgument, stuck}
use Rattle.cell_heap.specs.States.{heap_of}
use Rattle.c_texts.specs.Answers.{Answers, InRuns}
use Rattle.glib_model.specs.declared.kinds.Mark.{Mark}
use Rattle.glib_model.specs.declared.ends.LibEnd.{LibEnd}
use Rattle.glib_model.specs.declared.ends.LibWhat.{LibWhat}
use Rattle.glib_model.specs.declared.ends.LibWhat.TheVariants as what
use Rattle.glib_model.specs.Ends.{Tells, RefusedBy, IsRow, InRun, finished}
use Rattle.glib_model.proofs.Telling.{quiet_tells}

-- what is told of a state is told of an equal one
pub tells_along : (s a b : State.State) (heap : List (Option (List Cell))) (answer : LibEnd) → a ≡ b → Tells s b heap answer → Tells s a heap answer
tells_along s a b heap answer same tells = let P : State.State → Type 0 = λ x. Tells s x heap answer in subst P (sym same) tells

-- where an answer notes nothing
pub quiet_along : (s a : State.State) (heap : List (Option (List Cell))) (w : LibWhat) (answer : LibEnd) → heap_of s ≡ heap → a ≡ finished s w → answer ≡ record { what = w; notes = [] } → Tells s a heap answer
quiet_along s a heap w answer sees same is =
    let P : LibEnd → Type 0 = λ x. Tells s a heap x in
    subst P (sym is) (tells_along s a (finished s w) heap (record { what = w; notes = [] }) same (quiet_tells s heap w sees))

-- arguments that a row does not take end the run
pub stuck_row : (row : Does) (args : List Cell) (old : List (Option (List Cell))) (marks : List (Option Mark)) (answer : LibEnd)
    → ((s : State.State) (t : TypeArgument) → row s t args ≡ stuck s) → answer ≡ record { what = what.Undefined undef.Kind; notes = [] } → IsRow row args old marks old answer
stuck_row row args old marks answer is_stuck is = λ s t sees. quiet_along s (row s t args) old (what.Undefined undef.Kind) answer sees.blocks (is_stuck s t) is

module _ {A B : Type 0} (row : Does) (args : List Cell) (seen : A → B) (ask : State.State → Answer B) (go : State.State → B → State.State) (asked : Result A (Fault UndefKind)) (old : List (Option (List Cell))) (marks : List (Option Mark)) where
  -- the row goes on with what was asked for
  pub ok_row : {E : Type 0} (new : List (Option (List Cell))) (r : Result LibEnd E) (a : A) → ((s : State.State) (t : TypeArgument) → row s t args ≡ on s (ask s) (go s)) → InRuns old (λ s. Answers seen asked (ask s)) → asked ≡ Ok a
      → IfOk r (InRun (λ s. go s (seen a)) old new) → IfOk r (IsRow row args old marks new)
  ok_row new (Err e) a shape asks is does = tt
  ok_row new (Ok answer) a shape asks is does = λ s t sees.
      let P : Result A (Fault UndefKind) → Type 0 = λ r. Answers seen r (ask s) in
      tells_along s (row s t args) (go s (seen a)) new answer (shape s t ∙ ap (λ x. on s x (go s)) (subst P is (asks s sees.blocks))) (does s sees.blocks)

  -- the same where nothing is done to the heap
  pub quiet_row : (answer : LibEnd) (w : LibWhat) (a : A) → ((s : State.State) (t : TypeArgument) → row s t args ≡ on s (ask s) (go s)) → InRuns old (λ s. Answers seen asked (ask s)) → asked ≡ Ok a
      → ((s : State.State) → go s (seen a) ≡ finished s w) → answer ≡ record { what = w; notes = [] } → IsRow row args old marks old answer
  quiet_row answer w a shape asks is goes now = λ s t sees.
      let P : Result A (Fault UndefKind) → Type 0 = λ r. Answers seen r (ask s) in
      quiet_along s (row s t args) old w answer sees.blocks (shape s t ∙ ap (λ x. on s x (go s)) (subst P is (asks s sees.blocks)) ∙ goes s) now

  pub quiet_ok : {E : Type 0} (r : Result LibEnd E) (w : LibWhat) (a : A) → ((s : State.State) (t : TypeArgument) → row s t args ≡ on s (ask s) (go s)) → InRuns old (λ s. Answers seen asked (ask s)) → asked ≡ Ok a
      → ((s : State.State) → go s (seen a) ≡ finished s w) → IfOk r (λ answer. answer ≡ record { what = w; notes = [] }) → IfOk r (IsRow row args old marks old)
  quiet_ok (Err e) w a shape asks is goes now = tt
  quiet_ok (Ok answer) w a shape asks is goes now = quiet_row answer w a shape asks is goes now

  -- a refusal ends the run
  pub err_row : {E : Type 0} (r : Result LibEnd E) (f : Fault UndefKind) → ((s : State.State) (t : TypeArgument) → row s t args ≡ on s (ask s) (go s)) → InRuns old (λ s. Answers seen asked (ask s)) → asked ≡ Err f
      → IfOk r (RefusedBy f) → IfOk r (IsRow row args old marks old)
  err_row (Err e) f shape asks is does = tt
  err_row (Ok answer) Memory shape asks is does = absurd does
  err_row (Ok answer) (Refused u) shape asks is does = λ s t sees.
      let P : Result A (Fault UndefKind) → Type 0 = λ r. Answers seen r (ask s) in
      quiet_along s (row s t args) old (what.Undefined u) answer sees.blocks (shape s t ∙ ap (λ x. on s x (go s)) (subst P is (asks s sees.blocks))) does
