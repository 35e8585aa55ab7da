-- From a machine that ran to the run of the C.
use Rattle.std.proofs.Common.{◌≡◌, ℕ, ◌+◌, ◌-◌, ◌≤◌, Bool, true, false, List, [], ◌∷◌, ◌++◌, Option, Some, None, Result, Ok, Err, refl, sym, ap, ◌∙◌, subst, inl, inr, ◌⊎◌, append-nil, arith}
use Rattle.std.specs.Prelude.{if◌then◌else◌}
use Rattle.vg_base.specs.declared.event.CEnd.{CEnd}
use Rattle.vg_base.specs.declared.event.Event.{Event}
use Rattle.vg_base.specs.declared.event.Stream.{Stream}
use Rattle.vg_base.specs.declared.event.Stream.TheVariants as to
use Rattle.vg_base.specs.Machine.{Machine, moves, said}
use Rattle.vg_base.specs.Outside.{SinkView, Rose}
use Rattle.vg_base.specs.World.{World}
use Rattle.vg_base.specs.Headline.{events, printed}
use Rattle.vg_base.proofs.MachineLaws.{said_ended, said_add}
use Rattle.vg_base.proofs.OutsideLaws.{takes_none}
use Rattle.c_tree.specs.declared.unit.Unit.{Unit as CUnit}
use Rattle.c_meaning.specs.State
use Rattle.c_meaning.specs.Blocks.{live}
use Rattle.c_meaning.specs.Code.{reading}
use Rattle.c_meaning.specs.Runs.{CRun, opening_by, state_after}
use Rattle.c_interpreter.specs.declared.run.RunEnd.{RunEnd}
use Rattle.c_interpreter.specs.declared.run.RunEnd.TheVariants.{Done, Spent}
use Rattle.c_interpreter.specs.declared.run.RunFault.TheVariants as run
use Rattle.c_interpreter.specs.Kept.{Kept, machine_of, state_of, steps_made, trace_after}
use Rattle.c_interpreter.specs.Runs.{Sinks, Runs, Refused, Finished, TookFront, TookFronts, end_of}
use Rattle.c_interpreter.proofs.StepCounts.{made_all, made_bound}
use Rattle.run_texts.specs.Texts.{trace_text, live_text}
use Rattle.command_line.specs.Meaning.{Meaning}
use Rattle.vala2c.specs.declared.status.Kind.{Kind}
use Rattle.vala2c.specs.declared.status.Kind.TheVariants as kind
use Rattle.vala2c.specs.Status.{kind_of_end, kind_of_run}
use Rattle.vala2c.specs.Course.{Ran, world_of, TakesAll, TakesFront, prints_err, prints_out, texts_of}
use Rattle.vala2c.specs.Course as course
use Rattle.vala2c.specs.Stages.{TellsEnd, end_in, is_err_stream, texts_at, trace_text_at, live_text_at}
use Rattle.vala2c.specs.Stages as stage

-- 1. The steps that were made

-- what was said up to an end and up to a later one
said_later : {S E F : Type 0} (M : Machine S E F) (n m : ℕ) (s : S) (e : F) → n ≤ m → M.ended (moves M n s) ≡ Some e → said M m s ≡ said M n s
said_later M n m s e le h =
    let same : m ≡ n + (m - n) = omega arith in
    ap (λ k. said M k s) same ∙ said_add M n (m - n) s ∙ ap (λ l. said M n s ++ l) (said_ended M (m - n) (moves M n s) e h) ∙ append-nil (said M n s)

-- the steps that were made said what all steps say, where they lead to the same state
made_said : {S E F : Type 0} (M : Machine S E F) (n : ℕ) (s : S) → moves M (steps_made M n s) s ≡ moves M n s → said M (steps_made M n s) s ≡ said M n s
made_said {F = F} M n s same = at (M.ended (moves M n s)) refl
  where
    at : (o : Option F) → M.ended (moves M n s) ≡ o → said M (steps_made M n s) s ≡ said M n s
    at None h = ap (λ k. said M k s) (made_all M n s h)
    at (Some e) h = sym (said_later M (steps_made M n s) n s e (made_bound M n s) (ap M.ended same ∙ h))

-- 2. A machine that was loaded and ran

abbrev pub loaded : CUnit → World → Bool → Kept
loaded unit w keep = record { unit = unit; world = w; done = 0; keeps = keep; exhausted = false }

-- it shows what is observed of the run after all steps
pub record ShowsRun (unit : CUnit) (w : World) (n : ℕ) (k : Kept) : Type 0 where
  pub trace : trace_after k.unit k.world k.done ≡ (CRun unit w).trace n
  pub lives : live (state_of k) ≡ (CRun unit w).live n
  pub ended : (state_of k).ended ≡ (CRun unit w).ended n

shows_done : (unit : CUnit) (w : World) (keep : Bool) (n : ℕ) (done : ℕ) (exhausted : Bool) (before after : Sinks) → Finished (loaded unit w keep) n before (record { unit = unit; world = w; done = done; keeps = keep; exhausted = exhausted }) after
    → ShowsRun unit w n (record { unit = unit; world = w; done = done; keeps = keep; exhausted = exhausted })
shows_done unit w keep n done exhausted before after f =
    let M = machine_of unit in
    let s = opening_by reading unit w in
    let d : done ≡ 0 + steps_made M n s = f.done in
    let made : done ≡ steps_made M n s = omega (arith, d) in
    let there : moves M (steps_made M n s) s ≡ moves M n s = ap (λ k. moves M k s) (sym made) ∙ f.state in
    record {
      trace = ap (λ k. events (said M k s)) made ∙ ap events (made_said M n s there);
      lives = ap live f.state;
      ended = ap (λ (t : State.State). t.ended) f.state;
    }

-- the machine has its unit, world and setting
pub shows_run : (unit : CUnit) (w : World) (keep : Bool) (n : ℕ) (k : Kept) (before after : Sinks) → k.unit ≡ unit → k.world ≡ w → k.keeps ≡ keep → Finished (loaded unit w keep) n before k after → ShowsRun unit w n k
shows_run unit w keep n k before after eu ew ek f =
    let same : k ≡ record { unit = unit; world = w; done = k.done; keeps = keep; exhausted = k.exhausted } = ap (λ u. record k { unit = u }) eu ∙ ap (λ v. record k { unit = unit; world = v }) ew ∙ ap (λ b. record k { unit = unit; world = w; keeps = b }) ek in
    subst (ShowsRun unit w n) (sym same) (shows_done unit w keep n k.done k.exhausted before after (subst (λ x. Finished (loaded unit w keep) n before x after) same f))

-- 3. What the sinks took

front : (old new : SinkView) (bytes : List ℕ) → TookFront old bytes new → TakesFront bytes old new
front old new bytes t = (t.front, t.begins, t.took, t.faults)

fronts : (unit : CUnit) (w : World) (keep : Bool) (n : ℕ) (before after : Sinks) → TookFronts (loaded unit w keep) n before after → TakesFront (prints_out unit w n) before.out after.out × TakesFront (prints_err unit w n) before.err after.err
fronts unit w keep n before after f =
    (front before.out after.out (printed to.Out ((CRun unit w).trace n)) (f to.Out), front before.err after.err (printed to.Err ((CRun unit w).trace n)) (f to.Err))

alls : (unit : CUnit) (w : World) (keep : Bool) (n : ℕ) (new : Kept) (before after : Sinks) → Finished (loaded unit w keep) n before new after → TakesAll (prints_out unit w n) before.out after.out × TakesAll (prints_err unit w n) before.err after.err
alls unit w keep n new before after f = ((f.took to.Out, f.faults to.Out), (f.took to.Err, f.faults to.Err))

-- 4. The run

-- the end that is answered is that of the state
end_there : (o : Option CEnd) (e : RunEnd) → e ≡ end_of o → end_in e ≡ o
end_there None e h = ap end_in h
end_there (Some x) e h = ap end_in h

-- the texts are those of the run
texts_there : (m : Meaning) (unit : CUnit) (w : World) (k : Kept) → k.keeps ≡ m.trace → ShowsRun unit w m.steps k → texts_at m.live k ≡ texts_of m (CRun unit w) m.steps
texts_there m unit w k keeps s =
    ap (λ b. (if b then trace_text (trace_after k.unit k.world k.done) else []) ++ (if m.live then live_text_at k else [])) keeps
    ∙ ap (λ t. (if m.trace then trace_text t else []) ++ (if m.live then live_text_at k else [])) s.trace
    ∙ ap (λ l. (if m.trace then trace_text ((CRun unit w).trace m.steps) else []) ++ (if m.live then live_text l else [])) s.lives

told_by : (m : Meaning) (unit : CUnit) (w : World) (o o' e e' : SinkView) (end : Option CEnd) (texts : List ℕ) → (CRun unit w).ended m.steps ≡ end → texts ≡ texts_of m (CRun unit w) m.steps
    → TakesAll (prints_out unit w m.steps) o o' → TakesAll (prints_err unit w m.steps) e e' → Ran m unit w o o' e e' (kind_of_run m.command end) texts false
told_by m unit w o o' e e' None texts h t out err = subst (λ l. Ran m unit w o o' e e' kind.StepsSpent l false) (sym t) (course.spent h out err)
told_by m unit w o o' e e' (Some x) texts h t out err = subst (λ l. Ran m unit w o o' e e' (kind_of_end m.command x) l false) (sym t) (course.ended x h out err)

pub run_told : (m : Meaning) (unit : CUnit) (w : World) (new : Kept) (e : RunEnd) (before after : Sinks) (k : Kind) (texts : List ℕ) (muted : Bool) → Runs (loaded unit w m.trace) m.steps before (Ok e) new after → TellsEnd m new (end_in e) k texts muted
    → Ran m unit w before.out after.out before.err after.err k texts muted
run_told m unit w new e before after _ _ _ r stage.told =
    let s = shows_run unit w m.trace m.steps new before after r.unit r.world r.keeps r.by_answer in
    let all = alls unit w m.trace m.steps new before after r.by_answer in
    let end : (CRun unit w).ended m.steps ≡ end_in e = sym s.ended ∙ sym (end_there (state_of new).ended e r.answered) in
    told_by m unit w before.out after.out before.err after.err (end_in e) (texts_at m.live new) end (texts_there m unit w new r.keeps s) all.0 all.1
run_told m unit w new e before after _ _ _ r stage.no_memory =
    let f = fronts unit w m.trace m.steps before after r.fronts in course.memory f.0 f.1

pub run_refused : (m : Meaning) (unit : CUnit) (w : World) (new : Kept) (stream : Stream) (taken : ℕ) (before after : Sinks) → Runs (loaded unit w m.trace) m.steps before (Err (run.Out stream taken)) new after
    → Ran m unit w before.out after.out before.err after.err kind.OutFault [] (is_err_stream stream)
run_refused m unit w new to.Out taken before after r = let f = fronts unit w m.trace m.steps before after r.fronts in course.refused f.0 f.1 r.by_answer.rose
run_refused m unit w new to.Err taken before after r = let f = fronts unit w m.trace m.steps before after r.fronts in course.refused_on_err f.0 f.1 r.by_answer.rose

pub run_without_memory : (m : Meaning) (unit : CUnit) (w : World) (new : Kept) (before after : Sinks) → Runs (loaded unit w m.trace) m.steps before (Err run.Memory) new after → Ran m unit w before.out after.out before.err after.err kind.Memory [] false
run_without_memory m unit w new before after r = let f = fronts unit w m.trace m.steps before after r.fronts in course.memory f.0 f.1

-- a sink that was not touched took a front of anything
untouched : (bytes : List ℕ) (s : SinkView) → TakesFront bytes s s
untouched bytes s = ([], (bytes, refl), takes_none s s refl, omega arith)

pub not_loaded : (m : Meaning) (unit : CUnit) (w : World) (o e : SinkView) → Ran m unit w o o e e kind.Memory [] false
not_loaded m unit w o e = course.memory (untouched (prints_out unit w m.steps) o) (untouched (prints_err unit w m.steps) e)

-- 5. The machine that was loaded

loaded_is : (m : Meaning) (unit : CUnit) (input name : List ℕ) (old : Kept) → name ≡ m.name → old ≡ record { unit = unit; world = record { name = name; input = input; entries = [] }; done = 0; keeps = m.trace; exhausted = false }
    → old ≡ loaded unit (world_of m input) m.trace
loaded_is m unit input name old en is = is ∙ ap (λ n. loaded unit (record { name = n; input = input; entries = [] }) m.trace) en

pub told_loaded : (m : Meaning) (unit : CUnit) (input name : List ℕ) (old new : Kept) (e : RunEnd) (before after : Sinks) (k : Kind) (texts : List ℕ) (muted : Bool) → name ≡ m.name
    → old ≡ record { unit = unit; world = record { name = name; input = input; entries = [] }; done = 0; keeps = m.trace; exhausted = false } → Runs old m.steps before (Ok e) new after → TellsEnd m new (end_in e) k texts muted
    → Ran m unit (world_of m input) before.out after.out before.err after.err k texts muted
told_loaded m unit input name old new e before after k texts muted en is r t =
    run_told m unit (world_of m input) new e before after k texts muted (subst (λ x. Runs x m.steps before (Ok e) new after) (loaded_is m unit input name old en is) r) t

pub refused_loaded : (m : Meaning) (unit : CUnit) (input name : List ℕ) (old new : Kept) (stream : Stream) (taken : ℕ) (before after : Sinks) → name ≡ m.name
    → old ≡ record { unit = unit; world = record { name = name; input = input; entries = [] }; done = 0; keeps = m.trace; exhausted = false } → Runs old m.steps before (Err (run.Out stream taken)) new after
    → Ran m unit (world_of m input) before.out after.out before.err after.err kind.OutFault [] (is_err_stream stream)
refused_loaded m unit input name old new stream taken before after en is r =
    run_refused m unit (world_of m input) new stream taken before after (subst (λ x. Runs x m.steps before (Err (run.Out stream taken)) new after) (loaded_is m unit input name old en is) r)

pub without_memory_loaded : (m : Meaning) (unit : CUnit) (input name : List ℕ) (old new : Kept) (before after : Sinks) → name ≡ m.name
    → old ≡ record { unit = unit; world = record { name = name; input = input; entries = [] }; done = 0; keeps = m.trace; exhausted = false } → Runs old m.steps before (Err run.Memory) new after
    → Ran m unit (world_of m input) before.out after.out before.err after.err kind.Memory [] false
without_memory_loaded m unit input name old new before after en is r =
    run_without_memory m unit (world_of m input) new before after (subst (λ x. Runs x m.steps before (Err run.Memory) new after) (loaded_is m unit input name old en is) r)
