-- THE THEOREM: what it says of the C that a program is compiled to.
use Rattle.std.specs.Prelude.{ℕ, Bool, List, [], ◌∷◌, length, Result, Ok, Err}
use Rattle.vg_base.specs.declared.event.Fault.{Fault}
use Rattle.vg_base.specs.declared.event.Fault.TheVariants.{Refused, Memory}
use Rattle.vg_base.specs.World.{World, IsWorld}
use Rattle.vg_base.specs.Headline.{Headline, WithinLimits}
use Rattle.c_tree.specs.declared.unit.Unit.{Unit as CUnit}
use Rattle.c_tree.specs.Answers.{Answers}
use Rattle.c_meaning.specs.Runs.{CRun}
use Rattle.static_rules.specs.declared.rules.Refusal.{Refusal}
use Rattle.c_emit.specs.Program.{Program}
use Rattle.vala_compile.specs.Program.{AreRead, Refuses, Reads, Breaks}
use Rattle.c_emit.specs.VMeaning.{VRun}
use Rattle.vala_compile.specs.declared.compiler.Emitted.{Emitted}

-- The files break no rule and are a program; the bytes `c` are read as a unit of C; and in every world the run of that unit is the
-- run of that program: the same trace up to every bound, mated ends, and the same things with as many counts as owners. What is
-- counted in it stays within the limits.
pub record IsCompiled (files : List (List ℕ)) (strict : Bool) (c : List ℕ) : Type 0 where
  pub accepted : Breaks files strict []
  pub program : Program
  pub is_program : Reads files program
  pub unit : CUnit
  pub is_unit : Answers c (length c) (Ok unit)
  pub same : (w : World) → IsWorld w → Headline (VRun program w) (CRun unit w)
  pub within : (w : World) → IsWorld w → (n : ℕ) → WithinLimits (CRun unit w) n

-- what `check` answers: no rule of phase 1 is broken, or the first that is
abbrev pub Checks : List (List ℕ) → Bool → Result (Unit {0}) (Fault Refusal) → Type 0
Checks files strict (Ok u) = AreRead files
Checks files strict (Err (Refused r)) = Refuses files r
Checks files strict (Err Memory) = Unit {0}

-- what `compile` answers: a program's C, or the first rule that the files break; want of memory is tied to no cause
abbrev pub Compiles : List (List ℕ) → Bool → Result Emitted (Fault Refusal) → Type 0
Compiles files strict (Ok e) = IsCompiled files strict e.c.items
Compiles files strict (Err (Refused r)) = (rest : List Refusal) × Breaks files strict (r ∷ rest)
Compiles files strict (Err Memory) = Unit {0}
