-- A test that is known decides where a frame goes on.
use Rattle.std.proofs.Common.{◌≡◌, sym, subst, ℕ, suc, ◌+◌, Bool, List, Result, Ok}
use Rattle.std.specs.Prelude.{if◌then◌else◌}
use Rattle.vg_base.specs.declared.event.Fault.{Fault}
use Rattle.vg_base.specs.declared.event.UndefKind.{UndefKind}
use Rattle.c_tree.specs.Env.{Env}
use Rattle.c_meaning.specs.declared.cell.Cell.{Cell}
use Rattle.c_meaning.specs.State
use Rattle.c_meaning.specs.Numbers.{is_false}
use Rattle.c_meaning.specs.Steps.{at_place, onward}
use Rattle.c_code.specs.declared.code.Code.{Code}
use Rattle.c_code.specs.declared.program.Routine.{Routine}
use Rattle.c_code.specs.declared.program.Statement.TheVariants as statement
use Rattle.c_code.specs.Looks.{Heap}
use Rattle.c_code.specs.Coded.{cell_of}
use Rattle.c_code.specs.Machine.{perform}
use Rattle.cell_heap.specs.States.{heap_of}
use Rattle.c_texts.specs.Answers.{Answers}
use Rattle.c_run_state.specs.declared.state.Frame.{Frame}
use Rattle.c_run_state.specs.declared.state.Run.{Run}
use Rattle.c_run_state.specs.Shows.{Shows, frame_seen}
use Rattle.c_steps.proofs.Answered.{done}

pub tested : (env : Env) (rs : List Routine) (new : Run) (s : State.State) (f : Frame) (e : Code) (n : ℕ) (heap : Heap)
    (r : Result Cell (Fault UndefKind)) (x : Cell) (b : Bool)
    → heap_of s ≡ heap → r ≡ Ok x → Answers (λ x. x) r (cell_of e heap f.block) → is_false x ≡ b
    → Shows env new (if b then at_place s (frame_seen f) (suc f.at + n) else onward s (frame_seen f))
    → Shows env new (perform rs s (frame_seen f) (statement.Test e n))
tested env rs new s f e n heap r x b same is told test shows =
    done (λ x. x) env new s r x (λ h. cell_of e h f.block) heap
    (λ x. if is_false x then at_place s (frame_seen f) (suc f.at + n) else onward s (frame_seen f)) same is told
    (subst (λ y. Shows env new (if y then at_place s (frame_seen f) (suc f.at + n) else onward s (frame_seen f))) (sym test) shows)

pub test_jumped : (env : Env) (rs : List Routine) (new : Run) (s : State.State) (f : Frame) (e : Code) (n : ℕ) (heap : Heap)
    (r : Result Cell (Fault UndefKind)) (x : Cell) (b : Bool)
    → heap_of s ≡ heap → r ≡ Ok x → Answers (λ x. x) r (cell_of e heap f.block) → is_false x ≡ b
    → Shows env new (if b then onward s (frame_seen f) else at_place s (frame_seen f) n) → Shows env new (perform rs s (frame_seen f) (statement.TestJump e n))
test_jumped env rs new s f e n heap r x b same is told test shows =
    done (λ x. x) env new s r x (λ h. cell_of e h f.block) heap (λ x. if is_false x then onward s (frame_seen f) else at_place s (frame_seen f) n) same is told
    (subst (λ y. Shows env new (if y then onward s (frame_seen f) else at_place s (frame_seen f) n)) (sym test) shows)
