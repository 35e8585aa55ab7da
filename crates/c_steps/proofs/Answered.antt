-- What is done with an answer that is known.
use Rattle.std.proofs.Common.{◌≡◌, ◌∙◌, sym, ap, subst, None, Result, Ok, Err}
use Rattle.vg_base.specs.declared.event.Fault.{Fault}
use Rattle.vg_base.specs.declared.event.Fault.TheVariants.{Refused, Memory}
use Rattle.vg_base.specs.declared.event.UndefKind.{UndefKind}
use Rattle.c_tree.specs.Env.{Env}
use Rattle.c_meaning.specs.State
use Rattle.c_meaning.specs.Blocks.{Answer, on, bind}
use Rattle.c_code.specs.Looks.{Heap}
use Rattle.cell_heap.specs.States.{heap_of}
use Rattle.c_texts.specs.Answers.{Answers}
use Rattle.c_run_state.specs.declared.state.Run.{Run}
use Rattle.c_run_state.specs.Shows.{Shows}
use Rattle.c_steps.specs.Performs.{Refusing}

-- what was got is the answer
got : {A B : Type 0} (seen : A → B) (r : Result A (Fault UndefKind)) (a : A) (answer : Answer B) → r ≡ Ok a → Answers seen r answer → answer ≡ Ok (seen a)
got seen r a answer is told = subst (λ r. Answers seen r answer) is told

-- what is done with what was got, over the same blocks
pub done : {A B : Type 0} (seen : A → B) (env : Env) (new : Run) (s : State.State) (r : Result A (Fault UndefKind)) (a : A)
    (answer : Heap → Answer B) (heap : Heap) (go : B → State.State)
    → heap_of s ≡ heap → r ≡ Ok a → Answers seen r (answer heap) → Shows env new (go (seen a)) → Shows env new (on s (answer (heap_of s)) go)
done seen env new s r a answer heap go same is told shows =
    let known = ap answer same ∙ got seen r a (answer heap) is told in
    subst (λ x. Shows env new (on s x go)) (sym known) shows

-- a refusal is the answer; want of memory tells nothing
abbrev pub IsRefusal : {B : Type 0} → Fault UndefKind → Answer B → Type 0
IsRefusal (Refused u) answer = answer ≡ Err u
IsRefusal Memory answer = Unit {0}

refusal_of : {A B : Type 0} (seen : A → B) (f : Fault UndefKind) (answer : Answer B) → Answers seen (Err f) answer → IsRefusal f answer
refusal_of seen (Refused u) answer told = told
refusal_of seen Memory answer told = told

as_refusal : {A B : Type 0} (seen : A → B) (r : Result A (Fault UndefKind)) (f : Fault UndefKind) (answer : Answer B) → r ≡ Err f → Answers seen r answer
    → IsRefusal f answer
as_refusal seen r f answer is told = refusal_of seen f answer (subst (λ x. Answers seen x answer) is told)

-- it ends the run
ended_by : {B : Type 0} (env : Env) (old new : Run) (s : State.State) (f : Fault UndefKind) (answer : Answer B) (go : B → State.State)
    → IsRefusal f answer → Refusing f old new → s.ended ≡ None → Shows env old s → Shows env new (on s answer go)
ended_by env old new s (Refused u) answer go told refusing live shows = subst (λ x. Shows env new (on s x go)) (sym told) (refusing env s live shows)
ended_by env old new s Memory answer go told refusing live shows = absurd refusing

pub refused_by : {B : Type 0} (env : Env) (old new : Run) (s : State.State) (f : Fault UndefKind) (answer : Heap → Answer B) (heap : Heap) (go : B → State.State)
    → heap_of s ≡ heap → IsRefusal f (answer heap) → Refusing f old new → s.ended ≡ None → Shows env old s → Shows env new (on s (answer (heap_of s)) go)
refused_by env old new s f answer heap go same told refusing live shows =
    subst (λ h. Shows env new (on s (answer h) go)) (sym same) (ended_by env old new s f (answer heap) go told refusing live shows)

pub refused : {A B : Type 0} (seen : A → B) (env : Env) (old new : Run) (s : State.State) (r : Result A (Fault UndefKind)) (f : Fault UndefKind)
    (answer : Heap → Answer B) (heap : Heap) (go : B → State.State)
    → heap_of s ≡ heap → r ≡ Err f → Answers seen r (answer heap) → Refusing f old new → s.ended ≡ None → Shows env old s
    → Shows env new (on s (answer (heap_of s)) go)
refused seen env old new s r f answer heap go same is told refusing live shows =
    refused_by env old new s f answer heap go same (as_refusal seen r f (answer heap) is told) refusing live shows

-- an answer that waits for another
pub bound : {A B C D : Type 0} (seen : A → B) (later : C → D) (r : Result A (Fault UndefKind)) (a : A) (answer : Answer B)
    (go : B → Answer D) (q : Result C (Fault UndefKind))
    → r ≡ Ok a → Answers seen r answer → Answers later q (go (seen a)) → Answers later q (bind answer go)
bound seen later r a answer go q is told after = subst (λ x. Answers later q (bind x go)) (sym (got seen r a answer is told)) after

refused_first : {B D : Type 0} (f : Fault UndefKind) (answer : Answer B) (go : B → Answer D) → IsRefusal f answer → IsRefusal f (bind answer go)
refused_first (Refused u) answer go told = ap (λ x. bind x go) told
refused_first Memory answer go told = told

pub bound_refused : {A B D : Type 0} (seen : A → B) (r : Result A (Fault UndefKind)) (f : Fault UndefKind) (answer : Answer B) (go : B → Answer D)
    → r ≡ Err f → Answers seen r answer → IsRefusal f (bind answer go)
bound_refused seen r f answer go is told = refused_first f answer go (as_refusal seen r f answer is told)
