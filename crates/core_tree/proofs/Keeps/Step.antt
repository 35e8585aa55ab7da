-- What each item of work keeps.
use Rattle.std.proofs.Common.{refl, sym, ap, ◌∙◌, arith}
use Rattle.std.specs.Prelude.{ℕ, true, false, if◌then◌else◌, List, [], ◌∷◌, Option, Some, None, slice_get}
use Rattle.vg_base.specs.declared.event.VEnd.{VEnd}
use Rattle.vg_base.specs.declared.event.VEnd.TheVariants.{Dead}
use Rattle.vala_types.specs.declared.types.VType.{VType}
use Rattle.core_tree.specs.declared.program.Core.{Core}
use Rattle.core_tree.specs.declared.tree.CoreExpr.{CoreExpr}
use Rattle.core_tree.specs.declared.tree.CoreStmt.{CoreStmt}
use Rattle.core_tree.specs.declared.types.CoreMethod.{CoreMethod}
use Rattle.core_tree.specs.declared.types.CorePlace.{CorePlace}
use Rattle.core_tree.specs.State
use Rattle.core_tree.specs.State.{Value, Number, Operand, Frame, Item, Evaluate, Locate, Push, ReadTarget, ReadAway, ChangeTop, Perform, Reach, CopyCells, AndThen, OrElse, OneOf, IfNull, Branch, Repeat, Execute, Discard, Store, EndStatement, EndBlock, GiveUp, Clear, Turn, Steps, Each, BeginEach, EndSwitch, Choose, SetResult, Leave, ThrowGiven, Catches, Finally, EndCall, EndMaking, BeginMaking, CallBase, MakeObject, SetProperty, RunMethod, Notify, Emit, CallHandler, CallClassHandler, LoopTurn, EndFunction, EndCompletion, EndDispatch, BeginBody, EndBody, BackTo, ParkFor, Receive, End, Check, Start, EndMain}
use Rattle.core_tree.specs.Places.{Out, quiet, stop, next, zero_of, put, is_owning_place, give_up, within_gone}
use Rattle.core_tree.proofs.Kept.{Calm, calm_same, keeps_still, keeps_test, keeps_behind, keeps_from, keeps_if, source_ids_of}
use Rattle.core_tree.proofs.Keeps.Endings.{keeps-give_up_still}
use Rattle.core_tree.proofs.Counts.{count-cons, In, at}
use Rattle.core_tree.proofs.Owned.{carries_same}
use Rattle.std.proofs.Common.{◌≡◌, ◌+◌, ◌≤◌, Bool, true, false, cond, count_by, inl, inr, true≢false}
use Rattle.core_tree.proofs.Kept.{plain_append}
use Rattle.std.specs.Prelude.{ℕ, ◌==◌, IsTrue, ◌||◌, ◌&&◌, nat_le}
use Rattle.std.specs.List.{list_any}
use Rattle.vg_base.specs.Turn.{Due, Choice, Dispatched, Moved, NoSource, turn as next_turn}
use Rattle.vg_base.specs.Machine.{move, unless_ended}
use Rattle.core_tree.specs.State.{Source, Status, Live, Ending, Gone, ThingState}
use Rattle.core_tree.specs.Loop.{dues, take_turn}
use Rattle.core_tree.specs.Owners.{ends}
use Rattle.core_tree.specs.Runs.{by_status, ending_now}
use Rattle.core_tree.specs.Tidy.{parked_endings}
use Rattle.core_tree.proofs.TurnLaws.{dispatches}
use Rattle.core_tree.proofs.Keeps.Loop.{chosen_ids, keeps-take_turn}
use Rattle.core_tree.proofs.Keeps.Objects.{keeps-end_stage}
use Rattle.core_tree.proofs.Keeps.Leaving.{keeps-leave}
use Rattle.core_tree.proofs.Keeps.Changes.{keeps-copy_cell}
use Rattle.core_tree.proofs.Keeps.Statements.{keeps-take_operand}
use Rattle.std.proofs.lemmas.Bool.{eqb-true, eq-eqb}
use Rattle.core_tree.proofs.Keeps.Async.{keeps-begin_body, keeps-complete, keeps-park_for, keeps-receive}
use Rattle.core_tree.proofs.Keeps.Changes.{keeps-change}
use Rattle.core_tree.proofs.Keeps.Invoke.{keeps-call_method}
use Rattle.core_tree.proofs.Keeps.Loop.{keeps-end_completion, keeps-end_dispatch, keeps-end_function}
use Rattle.core_tree.proofs.Keeps.Objects.{keeps-begin_making, keeps-call_base, keeps-make_object}
use Rattle.core_tree.proofs.Keeps.Operations.{keeps-perform, keeps-reach}
use Rattle.core_tree.proofs.Keeps.Signals.{keeps-call_class_handler, keeps-call_handler, keeps-emit_next, keeps-notify}
use Rattle.core_tree.proofs.Keeps.Statements.{keeps-begin_each, keeps-check, keeps-choose, keeps-each, keeps-evaluate, keeps-execute, keeps-locate, keeps-repeat, keeps-set_result, keeps-throw, keeps-turn}
use Rattle.core_tree.proofs.Keeps.Storing.{keeps-read_target, keeps-set_property, keeps-store}
use Rattle.core_tree.specs.Step.{take_two, if_true, if_false, one_of, if_null, branch, end_statement, end_block, clear, end_call, copy_cells, end_with, end_code, call_main, leave_next, do_item, next_of, meaning, assigned, initial_items}
use Rattle.core_tree.proofs.Kept.{Keeps, IsPlain, Plain}
use Rattle.core_tree.proofs.Keeps.{steps, plain_rules}
use Rattle.core_tree.proofs.Keeps.Invoke.{keeps-call_method}

pub plain-assigned : (n : ℕ) (x1 : List CoreExpr) → Plain (assigned n x1)
plain-assigned n [] = search plain_rules depth 14
plain-assigned n (e ∷ es) = search plain_rules depth 14

pub plain-initial_items : (x0 : List CorePlace) (ns : List ℕ) → Plain (initial_items x0 ns)
plain-initial_items [] ns = search plain_rules
plain-initial_items (p ∷ ps) [] = search plain_rules
plain-initial_items (p ∷ ps) (n ∷ ns) = plain_append (assigned n p.initial) (initial_items ps ns) (plain-assigned n p.initial) (plain-initial_items ps ns)

ruleset rules_here = (steps, plain-assigned, plain-initial_items)

keeps-take_two : (s : State.State) (go : State.State → Operand → Operand → Out) → ((a b : Operand) (os : List Operand) → Keeps 1 [] s (go (record s { frame = record s.frame { operands = os } }) a b)) → Keeps 1 [] s (take_two s go)
keeps-take_two s go h = keeps-take_operand s _ (λ b os. keeps-take_operand (record s { frame = record s.frame { operands = os } }) _ (λ a ps. h a b ps))

pub keeps-if_true : (s : State.State) (o : Operand) (e : CoreExpr) → Keeps 1 [] s (if_true s o e)
keeps-if_true s o e = search rules_here depth 14

pub keeps-if_false : (s : State.State) (o : Operand) (e : CoreExpr) → Keeps 1 [] s (if_false s o e)
keeps-if_false s o e = search rules_here depth 14

pub keeps-one_of : (s : State.State) (o : Operand) (a : CoreExpr) (b : CoreExpr) → Keeps 1 [] s (one_of s o a b)
keeps-one_of s o a b = search rules_here depth 14

pub keeps-if_null : (s : State.State) (o : Operand) (e : CoreExpr) → Keeps 1 [] s (if_null s o e)
keeps-if_null s o e = search rules_here depth 14

pub keeps-branch : (s : State.State) (o : Operand) (a : CoreStmt) (b : CoreStmt) → Keeps 1 [] s (branch s o a b)
keeps-branch s o a b = search rules_here depth 14

keeps-end_statement : (s : State.State) (outer ns : List ℕ) → Keeps 1 [] s (end_statement s outer ns)
keeps-end_statement s outer [] = search rules_here depth 14
keeps-end_statement s outer (n ∷ ns) = keeps-give_up_still s (next (EndStatement outer ∷ []) (record s { frame = record s.frame { temporaries = ns } })) n refl (carries_same s.things s.places) (search steps)

keeps-end_block : (s : State.State) (ns : List ℕ) → Keeps 1 [] s (end_block s ns)
keeps-end_block s [] = search rules_here depth 14
keeps-end_block s (n ∷ ns) = keeps-give_up_still s (next (EndBlock ns ∷ []) s) n refl (carries_same s.things s.places) (search steps)

keeps-clear : (s : State.State) (n : ℕ) (kind : VType) → Keeps 1 [] s (clear s n kind)
keeps-clear s n kind =
    keeps_if s.things s.places s.work s.parked s.handlers s.last_handler s.sources s.last_source (within_gone s (slice_get s.places n)) (stop s Dead) (if is_owning_place s n then quiet (give_up s n) else quiet (put s n (zero_of kind.shape))) (search rules_here depth 14)
    (keeps_test s.things s.places s.work s.parked s.handlers s.last_handler s.sources s.last_source (is_owning_place s n) (quiet (give_up s n)) (quiet (put s n (zero_of kind.shape))) (λ e. keeps-give_up_still s s n refl (carries_same s.things s.places) (calm_same s.work)) (λ e. search rules_here depth 14))

keeps-end_call : (core : Core) (s : State.State) (ns : List ℕ) (caller : Frame) → Keeps 1 [] s (end_call core s ns caller)
keeps-end_call core s [] caller = search rules_here depth 14
keeps-end_call core s (n ∷ ns) caller = keeps-give_up_still s (next (EndCall ns caller ∷ []) s) n refl (carries_same s.things s.places) (search steps)

keeps-copy_cells : (core : Core) (s : State.State) (ps : List (ℕ × ℕ)) → Keeps 1 [] s (copy_cells core s ps)
keeps-copy_cells core s [] = search rules_here depth 14
keeps-copy_cells core s (p ∷ ps) = keeps_behind 1 [] (CopyCells ps ∷ []) s _ _ (search plain_rules) (keeps-copy_cell core (next (CopyCells ps ∷ []) s) p.0 p.1)

pub keeps-end_with : (s : State.State) (v : Value) → Keeps 1 [] s (end_with s v)
keeps-end_with s (Number z) = search rules_here depth 14
keeps-end_with s v = search rules_here depth 14

pub keeps-end_code : (s : State.State) (x1 : List Operand) → Keeps 1 [] s (end_code s x1)
keeps-end_code s [] = search rules_here depth 14
keeps-end_code s (o ∷ os) = search (rules_here, keeps-end_with) depth 14

pub keeps-call_main : (core : Core) (s : State.State) (x2 : Option CoreMethod) → Keeps 1 [] s (call_main core s x2)
keeps-call_main core s None = search rules_here depth 14
keeps-call_main core s (Some m) = search (rules_here, keeps-call_method) depth 14

-- What a step dispatches is a source that is there.
pub record Does (s : State.State) (o : Out) : Type 0 where
  pub ids : List ℕ
  pub keeps : Keeps 1 ids s o
  pub there : (id : ℕ) → In id ids → In id (source_ids_of s.sources)

-- the item that ends a thing is there where the thing is ending
abbrev pub Ready : State.State → Item → Type 0
Ready s (End t stage) = by_status ending_now (at s.things t) ≡ 1
Ready s _ = Unit {0}

nothing : (s : State.State) (o : Out) → Keeps 1 [] s o → Does s o
nothing s o k = record { ids = []; keeps = k; there = λ id h. absurd h }

-- the items of a step stand in the work that it finds
from_item : (item : Item) (w : List Item) → IsPlain item → Calm (item ∷ w) w
from_item item w h = record { by = λ t. (let a = count-cons (ends t) item w in let d : cond {A = ℕ} (ends t item) 1 0 ≡ 0 = ap (λ (x : Bool). cond {A = ℕ} x 1 0) (h t) in omega arith) }

-- an item that ends nothing was taken off
ordinary : (s : State.State) (item : Item) (o : Out) → IsPlain item → Keeps 1 [] s o → Does (next (item ∷ []) s) o
ordinary s item o h k = nothing (next (item ∷ []) s) o (keeps_from s.things s.places s.work s.parked s.handlers s.last_handler s.sources s.last_source 1 [] (item ∷ s.work) o.0 o.1 (from_item item s.work h) k)

-- The loop

among_if : (id : ℕ) (x : Source) (is : List ℕ) (a b : Bool) (later : Bool) → (x.id == id) ≡ a → (IsTrue later → In id is) → IsTrue ((a && b) || later) → In id (x.id ∷ is)
among_if id x is true true later e h k = inl (eqb-true x.id id e)
among_if id x is true false later e h k = inr (h k)
among_if id x is false b later e h k = inr (h k)

-- a source that a turn looks at
among : (id clock : ℕ) (xs : List Source) → IsTrue (list_any (λ (d : Due). d.id == id && nat_le d.due clock) (dues xs)) → In id (source_ids_of xs)
among id clock [] h = absurd (true≢false (sym h))
among id clock (x ∷ xs) h = among_if id x (source_ids_of xs) (x.id == id) (nat_le x.due clock) (list_any (λ (d : Due). d.id == id && nat_le d.due clock) (dues xs)) refl (among id clock xs) h

chosen_there : (s : State.State) (c : Choice) (id : ℕ) → (next_turn s.entries s.clock (dues s.sources)).choice ≡ c → In id (chosen_ids c) → In id (source_ids_of s.sources)
chosen_there s (Dispatched i) id e (inl q) = among id (next_turn s.entries s.clock (dues s.sources)).clock s.sources (dispatches s.entries s.clock (dues s.sources) id (e ∙ ap Dispatched q))
chosen_there s (Dispatched i) id e (inr q) = absurd q
chosen_there s Moved id e h = absurd h
chosen_there s NoSource id e h = absurd h

does-loop_turn : (core : Core) (s : State.State) (n : ℕ) (b : Bool) → Does (next (LoopTurn n ∷ []) s) (cond b (quiet (next (GiveUp n ∷ []) (record s { running = None; is_quitting = false }))) (take_turn core s n (next_turn s.entries s.clock (dues s.sources))))
does-loop_turn core s n true = ordinary s (LoopTurn n) _ (λ t. refl) (search rules_here depth 14)
does-loop_turn core s n false =
    let t = next_turn s.entries s.clock (dues s.sources) in
    record {
      ids = chosen_ids t.choice;
      keeps = keeps_from s.things s.places s.work s.parked s.handlers s.last_handler s.sources s.last_source 1 (chosen_ids t.choice) (LoopTurn n ∷ s.work) _ _ (from_item (LoopTurn n) s.work (λ v. refl)) (keeps-take_turn core s n t);
      there = λ id h. chosen_there s t.choice id refl h;
    }

-- Items

keeps-leave_next : (core : Core) (s : State.State) (way : State.Way) (w : List Item) → s.work ≡ w → Keeps 1 [] s (leave_next core s way w)
keeps-leave_next core s way [] e = keeps_still s s refl (carries_same s.things s.places) (calm_same s.work)
keeps-leave_next core s way (item ∷ rest) e =
    keeps_from s.things s.places (item ∷ rest) s.parked s.handlers s.last_handler s.sources s.last_source 1 [] s.work _ _ (record { by = λ t. ap (count_by (ends t)) (sym e) }) (keeps-leave core (record s { work = rest }) way item)

does : (core : Core) (s : State.State) (item : Item) → Ready s item → Does (next (item ∷ []) s) (do_item core s item)
does core s (End t stage) r = nothing (next (End t stage ∷ []) s) _ (keeps-end_stage core s t stage r)
does core s (Leave way) r = ordinary s (Leave way) _ (λ t. refl) (keeps-leave_next core s way s.work refl)
does core s (LoopTurn n) r = does-loop_turn core s n s.is_quitting
does core s (Evaluate e) r = ordinary s (Evaluate e) _ (λ t. refl) (search (rules_here, keeps-evaluate) depth 14)
does core s (Locate e) r = ordinary s (Locate e) _ (λ t. refl) (search (rules_here, keeps-locate) depth 14)
does core s (Push o) r = ordinary s (Push o) _ (λ t. refl) (search rules_here depth 14)
does core s ReadTarget r = ordinary s ReadTarget _ (λ t. refl) (search (rules_here, keeps-take_operand, keeps-read_target) depth 14)
does core s (ReadAway kind) r = ordinary s (ReadAway kind) _ (λ t. refl) (search (rules_here, keeps-take_operand, keeps-read_target) depth 14)
does core s (ChangeTop ch kind) r = ordinary s (ChangeTop ch kind) _ (λ t. refl) (search (rules_here, keeps-take_operand, keeps-change) depth 14)
does core s (Perform o around) r = ordinary s (Perform o around) _ (λ t. refl) (search (rules_here, keeps-perform) depth 14)
does core s (Reach o around) r = ordinary s (Reach o around) _ (λ t. refl) (search (rules_here, keeps-reach) depth 14)
does core s (CopyCells pairs) r = ordinary s (CopyCells pairs) _ (λ t. refl) (search (rules_here, keeps-copy_cells) depth 14)
does core s (AndThen e) r = ordinary s (AndThen e) _ (λ t. refl) (search (rules_here, keeps-take_operand, keeps-if_true) depth 14)
does core s (OrElse e) r = ordinary s (OrElse e) _ (λ t. refl) (search (rules_here, keeps-take_operand, keeps-if_false) depth 14)
does core s (OneOf a b) r = ordinary s (OneOf a b) _ (λ t. refl) (search (rules_here, keeps-take_operand, keeps-one_of) depth 14)
does core s (IfNull e) r = ordinary s (IfNull e) _ (λ t. refl) (search (rules_here, keeps-take_operand, keeps-if_null) depth 14)
does core s (Branch a b) r = ordinary s (Branch a b) _ (λ t. refl) (search (rules_here, keeps-take_operand, keeps-branch) depth 14)
does core s (Repeat body loop) r = ordinary s (Repeat body loop) _ (λ t. refl) (search (rules_here, keeps-take_operand, keeps-repeat) depth 14)
does core s (Execute stmt) r = ordinary s (Execute stmt) _ (λ t. refl) (search (rules_here, keeps-execute) depth 14)
does core s Discard r = ordinary s Discard _ (λ t. refl) (search rules_here depth 14)
does core s Store r = ordinary s Store _ (λ t. refl) (search (rules_here, keeps-take_two, keeps-store) depth 14)
does core s (EndStatement outer) r = ordinary s (EndStatement outer) _ (λ t. refl) (search (rules_here, keeps-end_statement) depth 14)
does core s (EndBlock ns) r = ordinary s (EndBlock ns) _ (λ t. refl) (search (rules_here, keeps-end_block) depth 14)
does core s (GiveUp n) r = ordinary s (GiveUp n) _ (λ t. refl) (keeps-give_up_still s s n refl (carries_same s.things s.places) (calm_same s.work))
does core s (Clear n kind) r = ordinary s (Clear n kind) _ (λ t. refl) (search (rules_here, keeps-clear) depth 14)
does core s (Turn loop) r = ordinary s (Turn loop) _ (λ t. refl) (search (rules_here, keeps-turn) depth 14)
does core s (Steps steps) r = ordinary s (Steps steps) _ (λ t. refl) (search rules_here depth 14)
does core s (Each loop v i n) r = ordinary s (Each loop v i n) _ (λ t. refl) (search (rules_here, keeps-each) depth 14)
does core s (BeginEach loop) r = ordinary s (BeginEach loop) _ (λ t. refl) (search (rules_here, keeps-take_operand, keeps-begin_each) depth 14)
does core s EndSwitch r = ordinary s EndSwitch _ (λ t. refl) (search rules_here depth 14)
does core s (Choose sections outer) r = ordinary s (Choose sections outer) _ (λ t. refl) (search (rules_here, keeps-take_operand, keeps-choose) depth 14)
does core s SetResult r = ordinary s SetResult _ (λ t. refl) (search (rules_here, keeps-take_operand, keeps-set_result) depth 14)
does core s ThrowGiven r = ordinary s ThrowGiven _ (λ t. refl) (search (rules_here, keeps-take_operand, keeps-throw) depth 14)
does core s (Catches cs) r = ordinary s (Catches cs) _ (λ t. refl) (search rules_here depth 14)
does core s (Finally fs) r = ordinary s (Finally fs) _ (λ t. refl) (search rules_here depth 14)
does core s (EndCall ns caller) r = ordinary s (EndCall ns caller) _ (λ t. refl) (search (rules_here, keeps-end_call) depth 14)
does core s (EndMaking ns caller) r = ordinary s (EndMaking ns caller) _ (λ t. refl) (search (rules_here, keeps-end_call) depth 14)
does core s (BeginMaking class method) r = ordinary s (BeginMaking class method) _ (λ t. refl) (search (rules_here, keeps-begin_making) depth 14)
does core s (CallBase class method) r = ordinary s (CallBase class method) _ (λ t. refl) (search (rules_here, keeps-call_base) depth 14)
does core s (MakeObject class properties) r = ordinary s (MakeObject class properties) _ (λ t. refl) (search (rules_here, keeps-make_object) depth 14)
does core s (SetProperty n) r = ordinary s (SetProperty n) _ (λ t. refl) (search (rules_here, keeps-take_operand, keeps-set_property) depth 14)
does core s (RunMethod m) r = ordinary s (RunMethod m) _ (λ t. refl) (search (rules_here, keeps-call_method) depth 14)
does core s (Notify v n) r = ordinary s (Notify v n) _ (λ t. refl) (search (rules_here, keeps-notify) depth 14)
does core s (Emit x phase) r = ordinary s (Emit x phase) _ (λ t. refl) (search (rules_here, keeps-emit_next) depth 14)
does core s (CallHandler n around) r = ordinary s (CallHandler n around) _ (λ t. refl) (search (rules_here, keeps-call_handler) depth 14)
does core s (CallClassHandler v slot around) r = ordinary s (CallClassHandler v slot around) _ (λ t. refl) (search (rules_here, keeps-call_class_handler) depth 14)
does core s (EndFunction id around) r = ordinary s (EndFunction id around) _ (λ t. refl) (search (rules_here, keeps-end_function) depth 14)
does core s (EndCompletion id t around) r = ordinary s (EndCompletion id t around) _ (λ t. refl) (search (rules_here, keeps-end_completion) depth 14)
does core s EndDispatch r = ordinary s EndDispatch _ (λ t. refl) (search (rules_here, keeps-end_dispatch) depth 14)
does core s (BeginBody t) r = ordinary s (BeginBody t) _ (λ t. refl) (search (rules_here, keeps-begin_body) depth 14)
does core s EndBody r = ordinary s EndBody _ (λ t. refl) (search (rules_here, keeps-complete) depth 14)
does core s (BackTo caller) r = ordinary s (BackTo caller) _ (λ t. refl) (search rules_here depth 14)
does core s (ParkFor t) r = ordinary s (ParkFor t) _ (λ t. refl) (search (rules_here, keeps-park_for) depth 14)
does core s (Receive t) r = ordinary s (Receive t) _ (λ t. refl) (search (rules_here, keeps-receive) depth 14)
does core s Check r = ordinary s Check _ (λ t. refl) (search (rules_here, keeps-take_operand, keeps-check) depth 14)
does core s Start r = ordinary s Start _ (λ t. refl) (search (rules_here, keeps-call_main) depth 14)
does core s EndMain r = ordinary s EndMain _ (λ t. refl) (search (rules_here, keeps-end_code) depth 14)

-- the endings that stand in the work are those of the things that are ending
abbrev pub EndingsStand : State.State → Type 0
EndingsStand s = (t : ℕ) → count_by (ends t) s.work + parked_endings t s.parked ≡ by_status ending_now (at s.things t)

at_most_one : (o : Option ThingState) → by_status ending_now o ≤ 1
at_most_one None = omega arith
at_most_one (Some x) = by x.status
  where
    by : (st : Status) → ending_now st ≤ 1
    by Live = omega arith
    by Ending = omega arith
    by Gone = omega arith

ready : (s : State.State) (item : Item) (rest : List Item) → s.work ≡ item ∷ rest → EndingsStand s → Ready s item
ready s (End t stage) rest e h =
    let a = h t in
    let b = ap (count_by (ends t)) e in
    let c = count-cons (ends t) (End t stage) rest in
    let d = at_most_one (at s.things t) in
    let same : cond {A = ℕ} (t == t) 1 0 ≡ 1 = ap (λ (x : Bool). cond {A = ℕ} x 1 0) (eq-eqb t t refl) in
    omega arith
ready s item rest e h = tt

does-next_of : (core : Core) (s : State.State) (w : List Item) → s.work ≡ w → EndingsStand s → Does s (next_of core s w)
does-next_of core s [] e h = nothing s (quiet s) (keeps_still s s refl (carries_same s.things s.places) (calm_same s.work))
does-next_of core s (item ∷ rest) e h =
    let d = does core (record s { work = rest }) item (ready s item rest e h) in
    record {
      ids = d.ids;
      keeps = keeps_from s.things s.places (item ∷ rest) s.parked s.handlers s.last_handler s.sources s.last_source 1 d.ids s.work _ _ (record { by = λ t. ap (count_by (ends t)) (sym e) }) d.keeps;
      there = d.there;
    }

does_unless : (s : State.State) (e : Option VEnd) (o : Out) → Does s o → Does s (unless_ended e s o)
does_unless s None o d = d
does_unless s (Some e) o d = nothing s (quiet s) (keeps_still s s refl (carries_same s.things s.places) (calm_same s.work))

-- a step
pub does_move : (core : Core) (s : State.State) → EndingsStand s → Does s (move (meaning core).machine s)
does_move core s h = does_unless s s.ended (next_of core s s.work) (does-next_of core s s.work refl h)
