-- A step by the code of functions is the step of their unit.
use Rattle.std.proofs.Common.{◌≡◌, ◌∙◌, refl, sym, ap, subst, ℕ, zero, suc, Bool, true, false, true≢false, List, [], ◌∷◌, Option, Some, None}
use Rattle.std.specs.Prelude.{slice_get, if◌then◌else◌}
use Rattle.std.specs.Option.{option_map}
use Rattle.c_tree.specs.declared.code.Expr.{Expr}
use Rattle.c_tree.specs.Env.{Env}
use Rattle.c_meaning.specs.State as state
use Rattle.c_meaning.specs.State.{State, Frame, Item, Run, Enter, Ask}
use Rattle.c_meaning.specs.Values.{Program, Part, meant}
use Rattle.c_meaning.specs.Steps as steps
use Rattle.c_code.specs.Resolved.{Tables}
use Rattle.c_code.specs.Statements.{act_has_code, all_have_code, body_has_code, have_code, routine_codes}
use Rattle.c_code.specs.Machine.{perform_if, do_item, do_next, step}
use Rattle.c_code.specs.Laws.{StepsAreTheSame}
use Rattle.c_code.proofs.Silent.{made, made_of, statement_found, silent_done, settled_is, cell_called, entered}
use Rattle.c_code.proofs.Performed.{performed}

-- 1. The statement at hand has code

both_true : (a b : Bool) → (if a then b else false) ≡ true → (a ≡ true) × (b ≡ true)
both_true true b h = (refl, h)
both_true false b h = absurd (true≢false (sym h))

abbrev HasCode : Option state.Statement → Type 0
HasCode None = Unit {0}
HasCode (Some x) = act_has_code x.act ≡ true

statement_has : (ss : List state.Statement) (n : ℕ) → all_have_code ss ≡ true → HasCode (slice_get ss n)
statement_has [] n h = tt
statement_has (x ∷ ss) zero h = (both_true (act_has_code x.act) (all_have_code ss) h).0
statement_has (x ∷ ss) (suc n) h = statement_has ss n (both_true (act_has_code x.act) (all_have_code ss) h).1

body_has : (o : Option state.Body) (n : ℕ) → body_has_code o ≡ true → HasCode (slice_get (steps.code_in o) n)
body_has None n h = tt
body_has (Some b) n h = statement_has b.code n h

routine_has : (rs : List state.Routine) (k n : ℕ) → have_code rs ≡ true → HasCode (slice_get (steps.code_in (steps.body_of (slice_get rs k))) n)
routine_has [] k n h = tt
routine_has (r ∷ rs) zero n h = body_has r.body n (both_true (body_has_code r.body) (have_code rs) h).0
routine_has (r ∷ rs) (suc k) n h = routine_has rs k n (both_true (body_has_code r.body) (have_code rs) h).1

-- 2. Steps

module _ (env : Env) (routines : List state.Routine) (has : have_code routines ≡ true) where
  abbrev unit : Program
  unit = record { env = env; routines = routines; meant = meant }

  abbrev tables : State → Tables
  tables s = record { literals = s.literals; statics = s.statics; routines = routines }

  abbrev at : Frame → steps.At
  at f = steps.at_frame unit f

  run_by : (s : State) (f : Frame) (o : Option state.Statement) → HasCode o
      → perform_if (made env (tables s)) s f (option_map (made_of env (tables s) (at f).result (at f).code) o) ≡ steps.run_statement unit s f (at f) o
  run_by s f None h = refl
  run_by s f (Some x) h = performed env routines s f x.scope (at f).result (at f).code x.act h

  item_done : (s : State) (i : Item) → do_item (made env (tables s)) unit s i ≡ steps.do_item unit s i
  item_done s (Run f) = ap (perform_if (made env (tables s)) s f) (statement_found env (tables s) f)
      ∙ run_by s f (at f).statement (routine_has routines f.routine f.at has)
  item_done s (Enter n vs) = entered env (tables s) s n vs
  item_done s (Ask f cs) = cell_called env (tables s) s (steps.scalars cs) f
  item_done s i = silent_done env (tables s) s i

  next_done : (s : State) (is : List Item) → do_next (made env (tables s)) unit s is ≡ steps.do_next unit s is
  next_done s [] = refl
  next_done s (i ∷ is) = item_done (record s { work = is }) i

  stepped : (s : State) → step (routine_codes env (tables s)) unit s ≡ steps.step unit s
  stepped s =
      let from : State = record s { said = [] } in
      let t : State = do_next (made env (tables s)) unit from s.work in
      settled_is env (tables s) (steps.enough t) t ∙ ap (λ (z : State). steps.settled unit (steps.enough z) z) (next_done from s.work)

pub steps_same : StepsAreTheSame
steps_same p s m h =
    subst (λ (w : Expr → Part). let q : Program = record p { meant = w } in
    step (routine_codes p.env (record { literals = s.literals; statics = s.statics; routines = p.routines })) q s ≡ steps.step q s) (sym m)
    (stepped p.env p.routines h s)
