-- Statements by code, in a state and a frame.
use Rattle.std.proofs.Common.{◌≡◌, ◌∙◌, refl, sym, ap, ℕ, suc, ◌+◌, true, false, true≢false, ℤ, pos, negsuc, List, [], ◌∷◌, Option, Some, None}
use Rattle.std.specs.Prelude.{if◌then◌else◌}
use Rattle.std.specs.Option.{is_some}
use Rattle.c_tree.specs.declared.code.Call.{Call as CCall}
use Rattle.c_tree.specs.declared.code.Callee.{Callee as CCallee}
use Rattle.c_tree.specs.declared.code.Callee.TheVariants as callee
use Rattle.c_tree.specs.declared.code.Case.{Case as CCase}
use Rattle.c_tree.specs.declared.kinds.Kind.{Kind}
use Rattle.c_tree.specs.Kinds.{widened}
use Rattle.c_tree.specs.Constants.{wrap, signed_value}
use Rattle.c_tree.specs.Library.{Row}
use Rattle.c_tree.specs.Env.{Env}
use Rattle.c_meaning.specs.State as state
use Rattle.c_meaning.specs.State.{State, Frame, Keep, Scope, Act, Assign, CallOf, Store, Test, TestGoto, Goto, Label, Switch, Return, Open, Pass}
use Rattle.c_meaning.specs.Blocks.{bind, on}
use Rattle.c_meaning.specs.Numbers.{number_of, converted, is_false}
use Rattle.c_meaning.specs.TypeRows.{push}
use Rattle.c_meaning.specs.BlockRows.{Does}
use Rattle.c_meaning.specs.Rows.{declared_row, does}
use Rattle.c_meaning.specs.Values as meaning
use Rattle.c_meaning.specs.Values.{Context, Program, Here, meant}
use Rattle.c_meaning.specs.Steps as steps
use Rattle.c_meaning.specs.Steps.{onward, at_place, leave, same_number, label_place, case_label}
use Rattle.cell_heap.specs.States.{heap_of}
use Rattle.c_code.specs.declared.program.LibraryFunction.{LibraryFunction}
use Rattle.c_code.specs.declared.program.Routine.{Routine}
use Rattle.c_code.specs.Resolved.{Tables, kind_at}
use Rattle.c_code.specs.Statements.{function_named, library_call, call_by, call_code, figure_of, case_codes, statement_code, bearings, has_code, act_has_code}
use Rattle.c_code.specs.Machine as machine
use Rattle.c_code.specs.Machine.{case_target, perform}
use Rattle.c_code.proofs.Silent.{made, cell_called}
use Rattle.c_code.proofs.Library.{Names, named, unknown, names_are, does_by_sort}
use Rattle.c_code.proofs.Calls.{kind_is, place_found, cell_found, converted_found, arguments_found, rows_found}

-- 1. Cases

number_back : (z : ℤ) → machine.number (figure_of z) ≡ z
number_back (pos n) = refl
number_back (negsuc n) = refl

cases_found : (k : Kind) (whole : List state.Statement) (z : ℤ) (cs : List CCase) (l : List ℕ)
    → case_target z (case_codes k whole cs) (label_place 0 l whole) ≡ label_place 0 (case_label k z cs l) whole
cases_found k whole z [] l = refl
cases_found k whole z (c ∷ cs) l =
    ap (λ (w : ℤ). if same_number w z then label_place 0 c.label.text whole else case_target z (case_codes k whole cs) (label_place 0 l whole))
    (number_back (wrap k (signed_value c.number)))
    ∙ elim (same_number (wrap k (signed_value c.number)) z) as (λ b.
    (if b then label_place 0 c.label.text whole else case_target z (case_codes k whole cs) (label_place 0 l whole))
    ≡ label_place 0 (if b then c.label.text else case_label k z cs l) whole)
    [ true ↦ refl | false ↦ cases_found k whole z cs l ]

-- 2. Statements

module _ (env : Env) (routines : List state.Routine) (s : State) (f : Frame) (sc : Scope) where
  abbrev unit : Program
  unit = record { env = env; routines = routines; meant = meant }

  abbrev tables : Tables
  tables = record { literals = s.literals; statics = s.statics; routines = routines }

  abbrev context : Context
  context = record { routines = routines; state = s; scope = sc; frame = f.block }

  abbrev here : Here
  here = record { program = unit; context = context }

  abbrev rs : List Routine
  rs = made env tables

  library_found : (t : State) (x : CCall) (r : Option Row) (o : Option LibraryFunction) (d : Option Does) → Names o d → is_some o ≡ true
      → machine.call rs (heap_of s) f.block t (library_call (bearings tables sc) x r o) ≡ steps.call_row here t x r d
  library_found t x None o d n h = refl
  library_found t x (Some r) o d (named g e i) h =
      ap (λ (o : Option LibraryFunction). machine.call rs (heap_of s) f.block t (library_call (bearings tables sc) x (Some r) o)) e
      ∙ (λ j. on t (rows_found unit context r.parameters x.arguments j) (λ cs. does_by_sort g t (steps.type_argument sc.env x.type_argument) cs j))
      ∙ ap (λ (d : Option Does). steps.call_row here t x (Some r) d) (sym i)
  library_found t x (Some r) o d (unknown e) h = absurd (true≢false (sym (sym (ap is_some e) ∙ h)))

  callee_found : (t : State) (x : CCall) (z : CCallee) → has_code z ≡ true
      → machine.call rs (heap_of s) f.block t (call_by (bearings tables sc) x z) ≡ steps.call_by here t x z
  callee_found t x (callee.Row n) h = library_found t x (declared_row n.text) (function_named n.text) (does n.text) (names_are n.text) h
  callee_found t x (callee.Value e) h = λ i.
      on t (cell_found unit context e i) (λ g.
      on t ((arguments_found unit context (steps.parameters_of (steps.takes_by sc.env (kind_at (bearings tables sc) e).base)) x.arguments
      ∙ ap (λ (k : Kind). steps.arguments here (steps.parameters_of (steps.takes_by sc.env k.base)) x.arguments) (kind_is unit context e)) i)
      (λ vs. cell_called env tables t vs g i))

  call_found : (t : State) (x : CCall) → has_code x.callee ≡ true
      → machine.call rs (heap_of s) f.block t (call_code (bearings tables sc) x) ≡ steps.call here t x
  call_found t x h = callee_found t x x.callee h

  pub performed : (r : Kind) (whole : List state.Statement) (a : Act) → act_has_code a ≡ true
      → perform rs s f (statement_code env r whole (bearings tables sc) a) ≡ steps.execute here s f r whole a
  performed r whole (Assign x y) h = λ i.
      on s (place_found unit context x i) (λ q.
      on s ((converted_found unit context (kind_at (bearings tables sc) x) y
      ∙ ap (λ (k : Kind). bind (meaning.value_of here y) (converted k)) (kind_is unit context x)) i) (steps.store (onward s f) q))
  performed r whole (CallOf x) h = call_found (onward s f) x h
  performed r whole (Store x y) h = λ i.
      on s (place_found unit context x i) (λ q.
      (call_found (push (Keep q (kind_at (bearings tables sc) x) ∷ []) (onward s f)) y h
      ∙ ap (λ (k : Kind). steps.call here (push (Keep q k ∷ []) (onward s f)) y) (kind_is unit context x)) i)
  performed r whole (Test x n) h = λ i. on s (cell_found unit context x i) (λ y. if is_false y then at_place s f (suc f.at + n) else onward s f)
  performed r whole (TestGoto x l) h = λ i. on s (cell_found unit context x i) (λ y. if is_false y then onward s f else at_place s f (label_place 0 l whole))
  performed r whole (Goto l) h = refl
  performed r whole (Label l) h = refl
  performed r whole (Switch x cs l) h = λ i.
      on s (bind (cell_found unit context x i) number_of) (λ z. at_place s f
      ((cases_found (widened (kind_at (bearings tables sc) x)) whole z cs l
      ∙ ap (λ (k : Kind). label_place 0 (case_label (widened k) z cs l) whole) (kind_is unit context x)) i))
  performed r whole (Return None) h = refl
  performed r whole (Return (Some e)) h = λ i. on s (converted_found unit context r e i) (λ v. leave s f (Some v))
  performed r whole Open h = refl
  performed r whole (Pass n) h = refl
