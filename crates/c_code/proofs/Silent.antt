-- What stands at a frame's place by code, and what takes no step.
use Rattle.std.proofs.Common.{◌≡◌, ◌∙◌, refl, ap, ap₂, ℕ, zero, suc, ◌==◌, Bool, true, false, List, [], ◌∷◌, ◌++◌, map, length, Option, Some, None, Ok}
use Rattle.std.specs.Prelude.{slice_get, if◌then◌else◌}
use Rattle.std.specs.Option.{option_map}
use Rattle.std.proofs.lemmas.Option.{slice_get-map}
use Rattle.std.proofs.lemmas.List.{length-map}
use Rattle.vg_base.specs.declared.event.CEnd.{CEnd}
use Rattle.vg_base.specs.declared.event.UndefKind.TheVariants as undef
use Rattle.c_tree.specs.declared.kinds.Kind.{Kind}
use Rattle.c_tree.specs.Kinds.{is_void}
use Rattle.c_tree.specs.Env.{Env}
use Rattle.c_meaning.specs.declared.cell.Cell.{Cell}
use Rattle.c_meaning.specs.declared.cell.Cell.TheVariants.{Ptr, Func, Null, Unset}
use Rattle.c_meaning.specs.State as state
use Rattle.c_meaning.specs.State.{State, Value, Frame, Item, Run, Enter, Ask, Scope, Act}
use Rattle.c_meaning.specs.Blocks.{Answer, bind, on, undefined}
use Rattle.c_meaning.specs.TypeRows.{push}
use Rattle.c_meaning.specs.Values.{Program, meant}
use Rattle.c_meaning.specs.Steps as steps
use Rattle.c_code.specs.declared.program.Statement.{Statement}
use Rattle.c_code.specs.declared.program.Routine.{Routine}
use Rattle.c_code.specs.Resolved.{Tables}
use Rattle.c_code.specs.Statements.{bearings, statement_code, taken, routine_code, routine_codes}
use Rattle.c_code.specs.Machine.{statements_of, statement_at, body_of, gives_nothing, is_passed, is_silent, pass_by, end_body, do_silent, first_is_silent, do_first, settled, call_cell, enter_routine, enter_frame, argument_cells}

module _ (env : Env) (t : Tables) where
  -- the unit, and the code of its functions
  abbrev pub unit : Program
  unit = record { env = env; routines = t.routines; meant = meant }

  abbrev pub made : List Routine
  made = routine_codes env t

  -- the code of a statement of a function with these statements, which gives that
  abbrev pub made_of : Kind → List state.Statement → state.Statement → Statement
  made_of r whole x = statement_code env r whole (bearings t x.scope) x.act

  -- 1. What is found

  routine_found : (n : ℕ) → slice_get made n ≡ option_map (routine_code env t) (slice_get t.routines n)
  routine_found n = slice_get-map (routine_code env t) t.routines n

  statements_found : (o : Option state.Routine)
      → statements_of (body_of (option_map (routine_code env t) o))
      ≡ map (made_of (steps.result_in o) (steps.code_in (steps.body_of o))) (steps.code_in (steps.body_of o))
  statements_found None = refl
  statements_found (Some r) = by_body r.body
    where
      by_body : (b : Option state.Body) → statements_of (body_of (option_map (routine_code env t)
          (Some (record { name = r.name; result = r.result; body = b }))))
          ≡ map (made_of r.result (steps.code_in b)) (steps.code_in b)
      by_body None = refl
      by_body (Some b) = refl

  abbrev at : Frame → steps.At
  at f = steps.at_frame unit f

  -- the code of the statement at a frame's place
  pub statement_found : (f : Frame) → statement_at made f ≡ option_map (made_of (at f).result (at f).code) (at f).statement
  statement_found f =
      ap (λ (o : Option Routine). slice_get (statements_of (body_of o)) f.at) (routine_found f.routine)
      ∙ ap (λ (ss : List Statement). slice_get ss f.at) (statements_found (slice_get t.routines f.routine))
      ∙ slice_get-map (made_of (at f).result (at f).code) (at f).code f.at

  void_found : (o : Option state.Routine) → gives_nothing (option_map (routine_code env t) o) ≡ is_void (steps.result_in o)
  void_found None = refl
  void_found (Some r) = refl

  result_found : (f : Frame) → gives_nothing (slice_get made f.routine) ≡ is_void (at f).result
  result_found f = ap gives_nothing (routine_found f.routine) ∙ void_found (slice_get t.routines f.routine)

  -- 2. What takes no step

  passed_act : (r : Kind) (whole : List state.Statement) (sc : Scope) (a : Act)
      → is_passed (Some (made_of r whole (record { scope = sc; act = a }))) ≡ steps.is_passed (Some (record { scope = sc; act = a }))
  passed_act r whole sc (state.Pass n) = refl
  passed_act r whole sc a = refl

  passed_found : (r : Kind) (whole : List state.Statement) (o : Option state.Statement) → is_passed (option_map (made_of r whole) o) ≡ steps.is_passed o
  passed_found r whole None = refl
  passed_found r whole (Some x) = passed_act r whole x.scope x.act

  silent_is : (i : Item) → is_silent made i ≡ steps.is_silent unit i
  silent_is (Run f) = ap is_passed (statement_found f) ∙ passed_found (at f).result (at f).code (at f).statement
  silent_is i = refl

  ended_is : (s : State) (f : Frame) (b : Bool) → end_body s f b ≡ if b then steps.leave s f None else undefined s undef.Unset
  ended_is s f true = refl
  ended_is s f false = refl

  over_act : (s : State) (f : Frame) (b : Bool) (r k : Kind) (whole : List state.Statement) (sc : Scope) (a : Act)
      → pass_by s f b (Some (made_of r whole (record { scope = sc; act = a }))) ≡ steps.pass_by s f k (Some (record { scope = sc; act = a }))
  over_act s f b r k whole sc (state.Pass n) = refl
  over_act s f b r k whole sc a = refl

  over_found : (s : State) (f : Frame) (r k : Kind) (whole : List state.Statement) (o : Option state.Statement)
      → pass_by s f (is_void k) (option_map (made_of r whole) o) ≡ steps.pass_by s f k o
  over_found s f r k whole None = ended_is s f (is_void k)
  over_found s f r k whole (Some x) = over_act s f (is_void k) r k whole x.scope x.act

  pub silent_done : (s : State) (i : Item) → do_silent made unit s i ≡ steps.do_silent unit s i
  silent_done s (Run f) =
      ap₂ (λ (b : Bool) (o : Option Statement). pass_by s f b o) (result_found f) (statement_found f)
      ∙ over_found s f (at f).result (at f).result (at f).code (at f).statement
  silent_done s i = refl

  first_silent : (o : Option CEnd) (is : List Item) → first_is_silent made o is ≡ steps.first_is_silent unit o is
  first_silent (Some e) is = refl
  first_silent None [] = refl
  first_silent None (i ∷ is) = silent_is i

  first_done : (s : State) (is : List Item) → do_first made unit s is ≡ steps.do_first unit s is
  first_done s [] = refl
  first_done s (i ∷ is) = silent_done (record s { work = is }) i

  pub settled_is : (n : ℕ) (s : State) → settled made unit n s ≡ steps.settled unit n s
  settled_is zero s = refl
  settled_is (suc n) s = λ i.
      elim (first_silent s.ended s.work i) as (λ b. State)
      [ true ↦ (settled_is n (do_first made unit s s.work) ∙ ap (steps.settled unit n) (first_done s s.work)) i | false ↦ s ]

  -- 3. Calls of functions of the unit, and entries

  body_entered : (s : State) (n : ℕ) (vs : List Value) (o : Option state.Routine) → enter_routine s n (option_map (routine_code env t) o) vs
      ≡ steps.enter_routine s n o vs
  body_entered s n vs None = refl
  body_entered s n vs (Some r) = by_body r.body
    where
      by_body : (b : Option state.Body) → enter_routine s n (option_map (routine_code env t)
          (Some (record { name = r.name; result = r.result; body = b }))) vs ≡ steps.enter_body s n b vs
      by_body None = refl
      by_body (Some b) = ap (λ (k : ℕ). if k == length vs then push (Enter n vs ∷ []) s else undefined s undef.Func) (length-map b.parameters (taken env))

  pub cell_called : (s : State) (vs : List Value) (f : Cell) → call_cell made s vs f ≡ steps.call_cell unit s vs f
  cell_called s vs (Func n) = ap (λ (o : Option Routine). enter_routine s n o vs) (routine_found n) ∙ body_entered s n vs (slice_get t.routines n)
  cell_called s vs Null = refl
  cell_called s vs Unset = refl
  cell_called s vs (Ptr b at) = refl
  cell_called s vs f = refl

  arguments_are : (ks : List Kind) (vs : List Value) → argument_cells (map (taken env) ks) vs ≡ steps.argument_cells env ks vs
  arguments_are [] vs = refl
  arguments_are (k ∷ ks) [] = refl
  arguments_are (k ∷ ks) (v ∷ vs) = ap (λ (r : Answer (List Cell)). bind (steps.fitting env k v) (λ w. bind r (λ cs. Ok (steps.cells_in w ++ cs))))
      (arguments_are ks vs)

  frame_entered : (s : State) (n : ℕ) (vs : List Value) (o : Option state.Routine) → enter_frame s n vs (body_of (option_map (routine_code env t) o))
      ≡ steps.enter_frame unit s n vs (steps.body_of o)
  frame_entered s n vs None = refl
  frame_entered s n vs (Some r) = by_body r.body
    where
      by_body : (b : Option state.Body) → enter_frame s n vs (body_of
          (option_map (routine_code env t) (Some (record { name = r.name; result = r.result; body = b })))) ≡ steps.enter_frame unit s n vs b
      by_body None = refl
      by_body (Some b) = ap (λ (r : Answer (List Cell)). on s r (steps.enter_with s n b.cells)) (arguments_are b.parameters vs)

  pub entered : (s : State) (n : ℕ) (vs : List Value) → enter_frame s n vs (body_of (slice_get made n))
      ≡ steps.enter_frame unit s n vs (steps.body_of (slice_get t.routines n))
  entered s n vs = ap (λ (o : Option Routine). enter_frame s n vs (body_of o)) (routine_found n) ∙ frame_entered s n vs (slice_get t.routines n)
