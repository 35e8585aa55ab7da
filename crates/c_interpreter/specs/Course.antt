-- How far a run of a unit came.
use Rattle.std.specs.Prelude.{◌≡◌, ◌+◌, ◌++◌, true, [], ◌∷◌, List, Option, Some, None}
use Rattle.std.specs.declared.vec.Vec.{Vec}
use Rattle.std.specs.declared.alloc.Global.{Global}
use Rattle.vg_base.specs.declared.event.CEnd.{CEnd}
use Rattle.vg_base.specs.declared.event.Event.{Event}
use Rattle.vg_base.specs.declared.event.Event.TheVariants.{Print}
use Rattle.vg_base.specs.Machine.{move}
use Rattle.vg_base.specs.World.{World}
use Rattle.c_tree.specs.declared.unit.Unit.{Unit as CUnit}
use Rattle.c_meaning.specs.State
use Rattle.c_meaning.specs.Code.{reading, program_by}
use Rattle.c_meaning.specs.Layout.{declared}
use Rattle.c_meaning.specs.Runs.{state_after}
use Rattle.c_code.specs.declared.program.Routine.{Routine}
use Rattle.c_code.specs.Statements.{have_code, routine_codes}
use Rattle.c_run_state.specs.Shows.{Shows}
use Rattle.c_interpreter.specs.declared.course.Course.{Course}
use Rattle.c_interpreter.specs.declared.machine.Stepped.{Stepped}
use Rattle.c_interpreter.specs.declared.machine.Stepped.TheVariants.{Ran, Printed, Ended}
use Rattle.c_interpreter.specs.Kept.{machine_of, steps_made, trace_after, Tells}

-- a state whose step's words were handed on
abbrev pub silent : State.State → State.State
silent s = record s { said = [] }

-- the code of a unit's functions, where the literals and static variables stand as in a state
abbrev pub codes_in : CUnit → State.State → List Routine
codes_in unit s =
    routine_codes (declared unit) (record { literals = s.literals; statics = s.statics; routines = (program_by reading unit).routines })

-- where events are kept they are these
abbrev pub AreKept : Option (Vec Event Global) → List Event → Type 0
AreKept None es = Unit {0}
AreKept (Some kept) es = kept.items ≡ es

-- A RUN STANDS where so many steps of the unit in the world lead
pub record Stands (unit : CUnit) (world : World) (c : Course) : Type 0 where
  pub shows : Shows (declared unit) c.run (silent (state_after unit world c.done))
  pub code : c.routines ≡ codes_in unit (state_after unit world c.done)
  pub called : have_code (program_by reading unit).routines ≡ true
  pub kept : AreKept c.trace (trace_after unit world c.done)

-- events more are kept
abbrev pub KeepsMore : Option (Vec Event Global) → List Event → Option (Vec Event Global) → Type 0
KeepsMore None es None = Unit {0}
KeepsMore (Some old) es (Some new) = new.items ≡ old.items ++ es
KeepsMore None es (Some new) = ⊥
KeepsMore (Some old) es None = ⊥

-- what is told of a step: the first print of what it said, or else the end that there is
abbrev pub told : List Event → Option CEnd → Stepped
told [] None = Ran
told [] (Some e) = Ended e
told (Print stream bytes ∷ es) o = Printed stream bytes
told (e ∷ es) o = told es o

-- A STEP ON from where a run stands
pub record Advances (unit : CUnit) (world : World) (old : Course) (answer : Stepped) (new : Course) : Type 0 where
  pub stands : Stands unit world new
  pub done : new.done ≡ old.done + steps_made (machine_of unit) 1 (state_after unit world old.done)
  pub state : state_after unit world new.done ≡ (move (machine_of unit) (state_after unit world old.done)).0
  pub tells : Tells answer (move (machine_of unit) (state_after unit world old.done)).1 (state_after unit world new.done).ended
