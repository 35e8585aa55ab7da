-- The next item of the work is taken off and done.
use Rattle.std.proofs.Common.{sym, subst, List, drop, Some, None}
use Rattle.c_code.specs.declared.program.Routine.{Routine}
use Rattle.c_code.specs.Machine.{do_first, do_next}
use Rattle.c_run_state.specs.declared.state.Run.{Run}
use Rattle.c_run_state.specs.declared.state.Work.{Work}
use Rattle.c_run_state.specs.Shows.{Popped, Shows}
use Rattle.c_steps.specs.Performs.{Does, DoesFirst, DoesNext, DoesSilently}

pub none_first : (rs : List Routine) (old new : Run) → Popped None old new → DoesFirst rs old new
none_first rs old new popped env p s same live shows = let left = popped env s shows in subst (λ is. Shows env new (do_first rs p s is)) (sym left.0) left.1

pub first_done : (rs : List Routine) (w : Work) (old mid new : Run) → Popped (Some w) old mid → DoesSilently rs w mid new → DoesFirst rs old new
first_done rs w old mid new popped does env p s same live shows =
    let taken = popped env s shows in
    subst (λ is. Shows env new (do_first rs p s is)) (sym taken.first) (does env p (record s { work = drop 1 s.work }) same taken.sized live taken.shows)

pub none_next : (rs : List Routine) (old new : Run) → Popped None old new → DoesNext rs old new
none_next rs old new popped env p s same all live shows = let left = popped env s shows in subst (λ is. Shows env new (do_next rs p s is)) (sym left.0) left.1

pub next_done : (rs : List Routine) (w : Work) (old mid new : Run) → Popped (Some w) old mid → Does rs w mid new → DoesNext rs old new
next_done rs w old mid new popped does env p s same all live shows =
    let taken = popped env s shows in
    subst (λ is. Shows env new (do_next rs p s is)) (sym taken.first) (does env p (record s { work = drop 1 s.work }) same all taken.sized live taken.shows)
