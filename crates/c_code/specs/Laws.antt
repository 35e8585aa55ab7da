-- The laws that join code to what it is the code of.
use Rattle.std.specs.Prelude.{◌≡◌, true}
use Rattle.c_tree.specs.declared.code.Expr.{Expr}
use Rattle.c_meaning.specs.State
use Rattle.c_meaning.specs.State.{Scope}
use Rattle.c_meaning.specs.Values.{Context, Program, meant}
use Rattle.c_meaning.specs.Steps as steps
use Rattle.cell_heap.specs.States.{heap_of}
use Rattle.c_code.specs.Coded.{value_of, place_of}
use Rattle.c_code.specs.Resolved.{Tables, Bearings, value_code, place_code}
use Rattle.c_code.specs.Statements.{have_code, routine_codes}
use Rattle.c_code.specs.Machine.{step}

-- the names that a context resolves
abbrev pub tables_of : Context → Tables
tables_of c = record { literals = c.state.literals; statics = c.state.statics; routines = c.routines }

abbrev pub bearings_of : Context → Bearings
bearings_of c = record { tables = tables_of c; scope = c.scope }

-- THE CODE OF A VALUE comes to the value and to the place that it means
pub record MeansTheSame (c : Context) (e : Expr) : Type 0 where
  pub value : value_of (value_code (bearings_of c) e) (heap_of c.state) c.frame ≡ (meant e).value c
  pub place : place_of (place_code (bearings_of c) e) (heap_of c.state) c.frame ≡ (meant e).place c

abbrev pub CodeMeansTheSame : Type 0
CodeMeansTheSame = (c : Context) (e : Expr) → MeansTheSame c e

-- A STEP BY THE CODE OF FUNCTIONS is the step of their unit, where each function of the library that they call has code
abbrev pub StepsAreTheSame : Type 0
StepsAreTheSame = (p : Program) (s : State.State) → p.meant ≡ meant → have_code p.routines ≡ true
    → step (routine_codes p.env (record { literals = s.literals; statics = s.statics; routines = p.routines })) p s ≡ steps.step p s
