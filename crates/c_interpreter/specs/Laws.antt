-- Laws of the runs of a unit.
use Rattle.std.specs.Prelude.{◌≡◌, ℕ, ◌≤◌, None}
use Rattle.vg_base.specs.declared.event.Stream.{Stream}
use Rattle.vg_base.specs.Run.{Begins}
use Rattle.vg_base.specs.World.{World}
use Rattle.c_tree.specs.declared.unit.Unit.{Unit as CUnit}
use Rattle.c_meaning.specs.State
use Rattle.c_meaning.specs.Code.{reading}
use Rattle.c_meaning.specs.Runs.{opening_by, state_after}
use Rattle.c_interpreter.specs.Kept.{machine_of, steps_made}
use Rattle.c_interpreter.specs.Runs.{prints}

-- while no end came, every step counts
abbrev pub CountsEachStep : Type 0
CountsEachStep = (unit : CUnit) (w : World) (n : ℕ) → (state_after unit w n).ended ≡ None → steps_made (machine_of unit) n (opening_by reading unit w) ≡ n

-- what fewer steps print is a front of what more steps print
abbrev pub PrintsGrow : Type 0
PrintsGrow = (unit : CUnit) (n m : ℕ) (s : State.State) (p : Stream) → n ≤ m → Begins (prints unit n s p) (prints unit m s p)
