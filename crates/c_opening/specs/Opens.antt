-- What an opening shows while it is made.
use Rattle.vg_base.specs.World.{World}
use Rattle.std.specs.Prelude.{◌≡◌, true, ◌+◌, ℕ, suc, pos, if◌then◌else◌, List, [], ◌∷◌, map, Option, Some, None, Ok, Err, Vec}
use Rattle.std.specs.Global.{Global}
use Rattle.std.specs.Str.{bytes_eq}
use Rattle.vg_base.specs.declared.event.Fault.{Fault}
use Rattle.vg_base.specs.declared.event.Fault.TheVariants.{Refused, Memory}
use Rattle.vg_base.specs.declared.event.UndefKind.{UndefKind}
use Rattle.vg_base.specs.declared.event.UndefKind.TheVariants as undef
use Rattle.c_tree.specs.Env.{Env}
use Rattle.c_tree.specs.declared.unit.Unit.{Unit as CUnit}
use Rattle.c_meaning.specs.declared.cell.Cell.{Cell}
use Rattle.c_meaning.specs.declared.cell.Cell.TheVariants.{Func, Int, Ptr}
use Rattle.c_meaning.specs.State
use Rattle.c_meaning.specs.State.{Enter, Finish, Scalar}
use Rattle.c_meaning.specs.Blocks.{Answer, next_block, undefined}
use Rattle.c_meaning.specs.Code.{program_by, reading}
use Rattle.c_meaning.specs.Layout.{declared}
use Rattle.c_meaning.specs.Runs.{enter_main, opening_by, with_main, with_name}
use Rattle.c_meaning.specs.Values.{Program}
use Rattle.c_code.specs.Resolved.{Tables}
use Rattle.c_code.specs.Steady.{all_own}
use Rattle.c_code.specs.Values.{value_seen}
use Rattle.c_code.specs.declared.value.Value.{Value}
use Rattle.c_resolver.specs.declared.scope.Scope.{Scope}
use Rattle.c_resolver.specs.Shown.{fixed_seen, scope_seen, standing_seen, tables_seen}
use Rattle.c_run_state.specs.Shows.{Shows}
use Rattle.c_opening.specs.declared.opening.Opening.{Opening}

-- 1. States that are shown

-- the unit of an opening, as it runs
abbrev pub unit_of : Opening → Program
unit_of o = program_by reading o.tables.unit.now

-- what names are resolved by at a state of a unit
abbrev pub tables_at : CUnit → State.State → Tables
tables_at unit s = record { literals = s.literals; statics = s.statics; routines = (program_by reading unit).routines }

-- An opening shows a state: its run shows it, the blocks of literals and static variables are those of the state, and there is no work yet.
pub record Opens (env : Env) (o : Opening) (s : State.State) : Type 0 where
  pub shows : Shows env o.run s
  pub literals : map standing_seen o.tables.literals ≡ s.literals
  pub statics : map fixed_seen o.tables.statics ≡ s.statics
  pub idle : s.work ≡ []

-- what was shown becomes what is shown then, of the same unit
pub record Becomes (change : State.State → State.State) (old new : Opening) : Type 0 where
  pub unit : new.tables.unit.now ≡ old.tables.unit.now
  pub opens : (env : Env) (s : State.State) → Opens env old s → Opens env new (change s)

-- a refusal ends the run; want of memory is no answer
abbrev pub Refusing : Fault UndefKind → Opening → Opening → Type 0
Refusing (Refused u) old new = Becomes (λ s. undefined s u) old new
Refusing Memory old new = ⊥

-- a scope outside of functions: what is declared at the end of the unit, and no variables
abbrev pub IsOutside : Opening → Scope → Type 0
IsOutside o scope = scope_seen scope ≡ record { env = declared o.tables.unit.now; variables = [] }

-- 2. The entry into `main`

-- the function of a name, by its place among the names of all functions
abbrev pub routine_at : ℕ → List (List ℕ) → List ℕ → Answer Cell
routine_at n [] x = Err undef.Kind
routine_at n (y ∷ ys) x = if bytes_eq y x then Ok (Func n) else routine_at (suc n) ys x

-- a function by its number, where there is one
abbrev pub cell_of_number : Option ℕ → Answer Cell
cell_of_number None = Err undef.Kind
cell_of_number (Some n) = Ok (Func n)

-- one argument, in the array of a block
abbrev pub arguments_at : ℕ → List State.Value
arguments_at b = Scalar (Int (pos 1)) ∷ Scalar (Ptr b 0) ∷ []

-- values are those of `main`
abbrev pub AreArguments : ℕ → Vec Value Global → Type 0
AreArguments b values = map value_seen values.items ≡ arguments_at b

-- a function is to be entered with one argument, and then the run finishes
abbrev pub Works : ℕ → ℕ → Opening → Opening → Type 0
Works main array old new =
    (new.tables ≡ old.tables) × ((env : Env) (s : State.State) → Opens env old s → Shows env new.run (record s { work = Enter main (arguments_at array) ∷ Finish ∷ [] }))

-- A run shows a state, and the tables are those of the state.
pub record Stands (env : Env) (o : Opening) (s : State.State) : Type 0 where
  pub shows : Shows env o.run s
  pub tables : tables_seen o.tables ≡ tables_at o.tables.unit.now s

-- the run stands there when it was opened so far, of the same unit
pub record Comes (change : State.State → State.State) (old new : Opening) : Type 0 where
  pub unit : new.tables.unit.now ≡ old.tables.unit.now
  pub stands : (env : Env) (s : State.State) → Opens env old s → Stands env new (change s)

-- a function is to be entered, with the name for its argument
abbrev pub EntersAt : ℕ → List ℕ → Opening → Opening → Type 0
EntersAt main name old new = Comes (λ s. enter_main (with_name s name) (1 + next_block s) (Func main)) old new

-- `main` is to be entered
abbrev pub Enters : List ℕ → Opening → Opening → Type 0
Enters name old new = Comes (λ s. with_main (unit_of old) s name) old new

-- a run stands before the first step of a unit in a world
pub record Entered (unit : CUnit) (w : World) (o : Opening) : Type 0 where
  pub unit_is : o.tables.unit.now ≡ unit
  pub stands : Stands (declared unit) o (opening_by reading unit w)
  pub own : all_own (opening_by reading unit w).work ≡ true
