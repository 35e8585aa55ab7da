-- A step of the run that a machine holds is a step of its unit.
use Rattle.std.proofs.Common.{◌≡◌, ℕ, ◌+◌, ◌≤◌, Bool, true, false, is_some, is_err, Result, Ok, Err, IfOk, IfErr, List, [], ◌∷◌, ◌++◌, map, reverse, Option, Some, None, refl, sym, ap, ◌∙◌, subst, arith, append-nil}
use Rattle.std.specs.declared.vec.Vec.{Vec}
use Rattle.std.specs.declared.alloc.Global.{Global}
use Rattle.vg_base.specs.declared.event.CEnd.{CEnd}
use Rattle.vg_base.specs.declared.event.Event.{Event}
use Rattle.vg_base.specs.declared.event.Memory.{Memory}
use Rattle.vg_base.specs.declared.event.Event.TheVariants as event
use Rattle.vg_base.specs.Headline.{Said, Happens, Returns, events}
use Rattle.vg_base.specs.Machine.{move, moves, said, unless_ended}
use Rattle.vg_base.specs.World.{World}
use Rattle.vg_base.proofs.HeadlineLaws.{events_append}
use Rattle.vg_base.proofs.MachineLaws.{moves_add, said_add}
use Rattle.c_tree.specs.declared.unit.Unit.{Unit as CUnit}
use Rattle.c_meaning.specs.State
use Rattle.c_meaning.specs.Code.{reading, program_by}
use Rattle.c_meaning.specs.Layout.{declared}
use Rattle.c_meaning.specs.Runs.{opening_by, state_after}
use Rattle.c_meaning.specs.Steps as steps
use Rattle.c_code.specs.declared.program.Routine.{Routine}
use Rattle.c_code.specs.Machine.{step}
use Rattle.c_code.specs.Statements.{have_code, routine_codes}
use Rattle.c_code.specs.Steady.{Steady, all_own, prints}
use Rattle.c_code.proofs.Stepped.{steps_same}
use Rattle.c_code.proofs.Steady.{steady}
use Rattle.c_run_state.specs.declared.state.Work.{Work}
use Rattle.c_run_state.specs.declared.state.Work.TheVariants as work
use Rattle.c_run_state.specs.declared.state.Run.{Run}
use Rattle.c_run_state.specs.Shows.{Shows, item_seen, Becomes}
use Rattle.c_steps.specs.Performs.{AreSized, MakesStep}
use Rattle.c_steps.proofs.Sizes.{code_sized}
use Rattle.c_interpreter.specs.declared.course.Course.{Course}
use Rattle.c_interpreter.specs.declared.machine.Stepped.{Stepped}
use Rattle.c_interpreter.specs.declared.machine.Stepped.TheVariants.{Ran, Printed, Ended}
use Rattle.c_interpreter.specs.Course.{Advances, AreKept, KeepsMore, Stands, codes_in, silent, told}
use Rattle.c_interpreter.specs.Kept.{Kept, Steps, machine_of, made_unless, steps_made, pieces, trace_after, Tells}
use Rattle.c_interpreter.proofs.StepCounts.{made_end}

-- 1. What is told of a step

-- without prints there are no pieces
pub no_pieces : (xs : List Said) → prints xs ≡ 0 → pieces xs ≡ []
no_pieces [] h = refl
no_pieces (Happens (event.Print stream bytes) ∷ xs) h = cc
no_pieces (Happens (event.Made k) ∷ xs) h = no_pieces xs h
no_pieces (Happens (event.Gone n) ∷ xs) h = no_pieces xs h
no_pieces (Happens (event.Dispatch n) ∷ xs) h = no_pieces xs h
no_pieces (Returns rows ∷ xs) h = no_pieces xs h

-- what is told speaks of pieces alone
pub tells_pieces : (a : Stepped) (xs ys : List Said) (o : Option CEnd) → pieces xs ≡ pieces ys → Tells a xs o → Tells a ys o
tells_pieces Ran xs ys o e t = (sym e ∙ t.0, t.1)
tells_pieces (Printed stream bytes) xs ys o e t = sym e ∙ t
tells_pieces (Ended x) xs ys o e t = (sym e ∙ t.0, t.1)

pub told_tells : (es : List Event) (o : Option CEnd) → prints (map Happens es) ≤ 1 → Tells (told es o) (map Happens es) o
told_tells [] None h = (refl, refl)
told_tells [] (Some e) h = (refl, refl)
told_tells (event.Print stream bytes ∷ es) o h =
    let none : prints (map Happens es) ≡ 0 = omega (arith, h) in
    ap (λ ps. record { stream = stream; bytes = bytes } ∷ ps) (no_pieces (map Happens es) none)
told_tells (event.Made k ∷ es) o h = tells_pieces (told es o) (map Happens es) (Happens (event.Made k) ∷ map Happens es) o refl (told_tells es o h)
told_tells (event.Gone n ∷ es) o h = tells_pieces (told es o) (map Happens es) (Happens (event.Gone n) ∷ map Happens es) o refl (told_tells es o h)
told_tells (event.Dispatch n ∷ es) o h = tells_pieces (told es o) (map Happens es) (Happens (event.Dispatch n) ∷ map Happens es) o refl (told_tells es o h)

-- events that happened are those that are said
pub happened : (es : List Event) → events (map Happens es) ≡ es
happened [] = refl
happened (e ∷ es) = ap (λ l. e ∷ l) (happened es)

-- 2. One step after so many

pub after_next : (unit : CUnit) (w : World) (n : ℕ) → state_after unit w (n + 1) ≡ (move (machine_of unit) (state_after unit w n)).0
after_next unit w n = moves_add (machine_of unit) n 1 (opening_by reading unit w)

pub trace_next : (unit : CUnit) (w : World) (n : ℕ)
    → trace_after unit w (n + 1) ≡ trace_after unit w n ++ events (move (machine_of unit) (state_after unit w n)).1
trace_next unit w n =
    let M = machine_of unit in
    let s = opening_by reading unit w in
    ap events (said_add M n 1 s)
    ∙ events_append (said M n s) ((move M (moves M n s)).1 ++ [])
    ∙ ap (λ l. events (said M n s) ++ events l) (append-nil (move M (moves M n s)).1)

-- at an end nothing moves
pub at_end : (unit : CUnit) (s : State.State) (e : CEnd) → s.ended ≡ Some e → move (machine_of unit) s ≡ (s, [])
at_end unit s e h = ap (λ o. unless_ended o s ((machine_of unit).next s)) h

-- before an end the next state is the step's, and what it says is what is said there
pub before_end : (unit : CUnit) (s : State.State) → s.ended ≡ None
    → move (machine_of unit) s ≡ (steps.step (program_by reading unit) s, (steps.step (program_by reading unit) s).said)
before_end unit s h = ap (λ o. unless_ended o s ((machine_of unit).next s)) h

pub one_made : (unit : CUnit) (s : State.State) → s.ended ≡ None → steps_made (machine_of unit) 1 s ≡ 1
one_made unit s h = ap (λ o. made_unless o 0) h

-- 3. The work of a run is of code's own items

pub all_seen : (ws : List Work) → all_own (map item_seen ws) ≡ true
all_seen [] = refl
all_seen (work.Run f ∷ ws) = all_seen ws
all_seen (work.Enter n vs ∷ ws) = all_seen ws
all_seen (work.Ask f cells ∷ ws) = all_seen ws
all_seen (work.Keep p t ∷ ws) = all_seen ws
all_seen (work.Finish ∷ ws) = all_seen ws

-- 4. A step of the code

-- A run shows a state without its words as it shows the state, if it has none.
pub own_work : (unit : CUnit) (run : Run) (s : State.State) → Shows (declared unit) run (silent s) → all_own s.work ≡ true
own_work unit run s shows = ap all_own (sym shows.books.work) ∙ all_seen (reverse run.work.items)

pub sized_code : (unit : CUnit) (s : State.State) (rs : List Routine) → rs ≡ codes_in unit s → AreSized (declared unit) rs
sized_code unit s rs e =
    subst (AreSized (declared unit)) (sym e)
    (code_sized (declared unit) (record { literals = s.literals; statics = s.statics; routines = (program_by reading unit).routines }))

-- the step by code is the unit's
pub code_step : (unit : CUnit) (s : State.State) (rs : List Routine) → rs ≡ codes_in unit s → have_code (program_by reading unit).routines ≡ true
    → step rs (program_by reading unit) s ≡ steps.step (program_by reading unit) s
code_step unit s rs e called = ap (λ r. step r (program_by reading unit) s) e ∙ steps_same (program_by reading unit) s refl called

-- the run after a step shows what the step leads to
pub made_step : (unit : CUnit) (s : State.State) (rs : List Routine) (old new : Run) → rs ≡ codes_in unit s → have_code (program_by reading unit).routines ≡ true
    → s.ended ≡ None → Shows (declared unit) old (silent s) → MakesStep rs old new → Shows (declared unit) new (steps.step (program_by reading unit) s)
made_step unit s rs old new e called live shows makes =
    let stepped : Shows (declared unit) new (step rs (program_by reading unit) s) =
    makes (declared unit) (program_by reading unit) (silent s) refl (sized_code unit s rs e) live shows
    in
    subst (Shows (declared unit) new) (code_step unit s rs e called) stepped

pub step_steady : (unit : CUnit) (s : State.State) (rs : List Routine) → rs ≡ codes_in unit s → have_code (program_by reading unit).routines ≡ true
    → all_own s.work ≡ true → Steady s (steps.step (program_by reading unit) s)
step_steady unit s rs e called own = subst (Steady s) (code_step unit s rs e called) (steady rs (program_by reading unit) s own)

-- so the code of the functions stays the same
pub steady_code : (unit : CUnit) (s t : State.State) → Steady s t → codes_in unit t ≡ codes_in unit s
steady_code unit s t h =
    ap (λ ls. routine_codes (declared unit) (record { literals = ls; statics = t.statics; routines = (program_by reading unit).routines })) h.literals
    ∙ ap (λ fs. routine_codes (declared unit) (record { literals = s.literals; statics = fs; routines = (program_by reading unit).routines })) h.statics

-- 5. The course of a run

-- more events are kept behind those that are
pub kept_more : (old new : Option (Vec Event Global)) (es fs gs : List Event) → AreKept old es → KeepsMore old fs new → gs ≡ es ++ fs → AreKept new gs
kept_more None None es fs gs a k e = tt
kept_more (Some v) (Some w) es fs gs a k e = k ∙ ap (λ l. l ++ fs) a ∙ sym e
kept_more None (Some w) es fs gs a k e = absurd k
kept_more (Some v) None es fs gs a k e = absurd k

-- at an end the end is told again
pub ends_again : (unit : CUnit) (world : World) (c : Course) (e : CEnd) → c.run.ended ≡ Some e → Stands unit world c → Advances unit world c (Ended e) c
ends_again unit world c e h stands =
    let s = state_after unit world c.done in
    let ended : s.ended ≡ Some e = sym stands.shows.books.ended ∙ h in
    let stays : move (machine_of unit) s ≡ (s, []) = at_end unit s e ended in
    let none : steps_made (machine_of unit) 1 s ≡ 0 = made_end (machine_of unit) 1 s e ended in
    record {
      stands = stands;
      done = omega (arith, none);
      state = sym (ap (λ x. x.0) stays);
      tells = (ap (λ x. pieces x.1) stays, ended);
    }

-- before an end the run goes a step on
pub goes_on : (unit : CUnit) (world : World) (c d : Course) (run : Run) (es : List Event) → c.run.ended ≡ None → Stands unit world c
    → MakesStep c.routines c.run run → es ≡ run.said.items → Becomes silent run d.run → d.routines ≡ c.routines → d.done ≡ c.done + 1
    → KeepsMore c.trace es d.trace → Advances unit world c (told es d.run.ended) d
goes_on unit world c d run es live stands makes words emptied same done more =
    let s = state_after unit world c.done in
    let p = program_by reading unit in
    let t = steps.step p s in
    let unended : s.ended ≡ None = sym stands.shows.books.ended ∙ live in
    let shows : Shows (declared unit) run t = made_step unit s c.routines c.run run stands.code stands.called unended stands.shows makes in
    let moved : move (machine_of unit) s ≡ (t, t.said) = before_end unit s unended in
    let steady_there : Steady s t = step_steady unit s c.routines stands.code stands.called (own_work unit c.run s stands.shows) in
    let there : state_after unit world d.done ≡ t = ap (state_after unit world) done ∙ after_next unit world c.done ∙ ap (λ x. x.0) moved in
    let said_there : map Happens es ≡ t.said = ap (map Happens) words ∙ shows.books.said in
    let few : prints (map Happens es) ≤ 1 = subst (λ l. prints l ≤ 1) (sym said_there) steady_there.prints in
    let trace_there : trace_after unit world d.done ≡ trace_after unit world c.done ++ es =
    ap (trace_after unit world) done ∙ trace_next unit world c.done
    ∙ ap (λ l. trace_after unit world c.done ++ events l) (ap (λ x. x.1) moved ∙ sym said_there)
    ∙ ap (λ l. trace_after unit world c.done ++ l) (happened es)
    in
    let emptied_there : Shows (declared unit) d.run (silent t) = emptied (declared unit) t shows in
    let tells : Tells (told es d.run.ended) (map Happens es) d.run.ended = told_tells es d.run.ended few in
    let one : steps_made (machine_of unit) 1 s ≡ 1 = one_made unit s unended in
    record {
      stands = record {
        shows = subst (λ x. Shows (declared unit) d.run (silent x)) (sym there) emptied_there;
        code = same ∙ stands.code ∙ sym (steady_code unit s t steady_there) ∙ ap (codes_in unit) (sym there);
        called = stands.called;
        kept = kept_more c.trace d.trace (trace_after unit world c.done) es (trace_after unit world d.done) stands.kept more trace_there;
      };
      done = omega (arith, done, one);
      state = there ∙ sym (ap (λ x. x.0) moved);
      tells = subst (λ o. Tells (told es d.run.ended) (move (machine_of unit) s).1 o) (emptied_there.books.ended ∙ ap (λ x. x.ended) (sym there))
          (subst (λ l. Tells (told es d.run.ended) l d.run.ended) (said_there ∙ sym (ap (λ x. x.1) moved)) tells);
    }

-- where no end was found there is none
pub none_there : (o : Option CEnd) → ((e : CEnd) → o ≡ Some e → ⊥) → o ≡ None
none_there None h = refl
none_there (Some e) h = absurd (h e refl)

-- 6. One call of a machine's step

-- what a step on promises
abbrev pub OnAnswer : Course → Course → Stepped → Type 0
OnAnswer old new answer = (unit : CUnit) (world : World) → Stands unit world old → Advances unit world old answer new

pub stands_after : (unit : CUnit) (world : World) (old new : Course) (r : Result Stepped Memory) (b : Bool) → b ≡ is_err r → Stands unit world old
    → IfOk r (OnAnswer old new) → b ≡ false → Stands unit world new
stands_after unit world old new (Ok a) b e stands all h = (all unit world stands).stands
stands_after unit world old new (Err m) b e stands all h = cc

-- how a machine is seen
abbrev pub kept_of : CUnit → World → Course → Bool → Kept
kept_of unit world c b = record { unit = unit; world = world; done = c.done; keeps = is_some c.trace; exhausted = b }

pub steps_there : (unit : CUnit) (world : World) (old new : Course) (r : Result Stepped Memory) (a b : Bool) → a ≡ false → b ≡ is_err r → Stands unit world old
    → IfOk r (OnAnswer old new) → IfErr r (λ e. new.done ≡ old.done) → new.done ≤ old.done + 1 → is_some new.trace ≡ is_some old.trace
    → Steps (kept_of unit world old a) r (kept_of unit world new b)
steps_there unit world old new (Ok answer) a b live e stands all refused bound keeps =
    let on = all unit world stands in
    record {
      by_answer = record { done = on.done; state = on.state; tells = on.tells };
      bound = bound;
      unit = refl;
      world = refl;
      keeps = keeps;
      exhausted = e ∙ sym live;
    }
steps_there unit world old new (Err m) a b live e stands all refused bound keeps =
    record { by_answer = refused; bound = bound; unit = refl; world = refl; keeps = keeps; exhausted = e }
