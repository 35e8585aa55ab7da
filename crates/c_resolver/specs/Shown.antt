-- What names are resolved by, and what is found of a value, as the code keeps them.
use Rattle.std.specs.Prelude.{ℕ, Bool, List, map, Option, None}
use Rattle.c_tree.specs.declared.kinds.Kind.{Kind}
use Rattle.c_tree.specs.Kinds.{void}
use Rattle.c_tree.specs.Env.{Env}
use Rattle.c_tree.specs.Checks.{is_null, is_null_literal}
use Rattle.c_meaning.specs.State as meaning
use Rattle.c_meaning.specs.Code.{program_by, reading}
use Rattle.c_value_checker.specs.Seen.{seen}
use Rattle.c_code.specs.declared.code.Code.{Code}
use Rattle.c_code.specs.Resolved as resolved
use Rattle.c_code.specs.Resolved.{Bearings, Part, Resolution, env_in, kind_part, nothing, read}
use Rattle.c_code.specs.Statements.{bearings}
use Rattle.c_resolver.specs.declared.tables.Fixed.{Fixed}
use Rattle.c_resolver.specs.declared.tables.Standing.{Standing}
use Rattle.c_resolver.specs.declared.tables.Literal.{Literal}
use Rattle.c_resolver.specs.declared.tables.Tables.{Tables}
use Rattle.c_resolver.specs.declared.scope.Scope.{Scope}
use Rattle.c_resolver.specs.declared.found.Reached.{Reached}
use Rattle.c_resolver.specs.declared.found.Reached.TheVariants as reached
use Rattle.c_resolver.specs.declared.found.Found.{Found}

-- 1. Tables

-- a text literal
abbrev pub literal_seen : Literal → meaning.Literal
literal_seen l = record { start = l.start; bytes = l.bytes }

-- the block of a text literal
abbrev pub standing_seen : Standing → meaning.Standing
standing_seen s = record { start = s.start; block = s.block }

-- the block of a static variable
abbrev pub fixed_seen : Fixed → meaning.Fixed
fixed_seen f = record { name = f.name; block = f.block }

-- the tables of a unit
abbrev pub tables_seen : Tables → resolved.Tables
tables_seen t = record { literals = map standing_seen t.literals; statics = map fixed_seen t.statics; routines = (program_by reading t.unit.now).routines }

-- a function of which only the name is known
abbrev pub named_alone : List ℕ → meaning.Routine
named_alone x = record { name = x; result = void; body = None }

-- 2. Scopes

-- a variable of a function, and its place in a frame
abbrev pub variable_seen : List ℕ × ℕ → meaning.Variable
variable_seen v = record { name = v.0; at = v.1 }

-- what is declared, and the variables in scope
abbrev pub scope_seen : Scope → meaning.Scope
scope_seen s = record { env = seen s.environment; variables = map variable_seen s.variables }

-- what names are resolved by in a scope
abbrev pub looks : Tables → Scope → Bearings
looks t s = bearings (tables_seen t) (scope_seen s)

-- 3. What is found of a value

-- its kind, whether it is the word `NULL`, and the code of its value and of its place
pub record Shown : Type 0 where
  pub kind : Option Kind
  pub null : Bool
  pub value : Code
  pub place : Code

-- what is told of a part
abbrev pub shown : Bearings → Part → Shown
shown b p = record { kind = kind_part b p; null = is_null p.known; value = p.value b; place = p.place b }

-- what is told of one level, by where it stands
abbrev pub level_shown : Bearings → ℕ → Resolution → Shown
level_shown b at r = record { kind = r.checked.kind (env_in b); null = is_null_literal r.checked.literal; value = r.value b at; place = r.place b }

-- the value of what is reached, of a kind
abbrev pub value_reached : Env → Option Kind → Reached → Code
value_reached env k (reached.Place c) = read env k c
value_reached env k (reached.Value c) = c

-- the place of what is reached
abbrev pub place_reached : Reached → Code
place_reached (reached.Place c) = c
place_reached (reached.Value c) = nothing

-- what was found
abbrev pub found_seen : Env → Found → Shown
found_seen env f = record { kind = f.kind; null = f.null; value = value_reached env f.kind f.reached; place = place_reached f.reached }
