-- What the law on emitted units speaks of.
use Rattle.std.specs.Prelude.{◌≡◌, ℕ, []}
use Rattle.vg_base.specs.declared.event.Stream.TheVariants.{Err}
use Rattle.vg_base.specs.World.{World}
use Rattle.vg_base.specs.Headline.{Headline, WithinLimits, printed}
use Rattle.c_tree.specs.declared.unit.Unit.{Unit as CUnit}
use Rattle.c_tree.specs.Bare.{SameUnit}
use Rattle.c_meaning.specs.Runs.{CRun}
use Rattle.c_places.specs.Apart.{StandApart}
use Rattle.c_emit.specs.Program.{Program, AreTexts}
use Rattle.c_emit.specs.Emission.{unit_of}
use Rattle.c_emit.specs.VMeaning.{VRun}

-- In every world the unit of a program runs as the program does, wherever its parts stand, if its text literals stand apart.
abbrev pub EmittedUnitsRun : Type 0
EmittedUnitsRun = (program : Program) (unit : CUnit) (w : World) → AreTexts program → SameUnit unit (unit_of program) → StandApart unit
    → Headline (VRun program w) (CRun unit w)

-- No thing has 2^63 owners there, and no such number of handlers is connected, however many steps there are.
abbrev pub EmittedUnitsStayWithin : Type 0
EmittedUnitsStayWithin = (program : Program) (unit : CUnit) (w : World) (n : ℕ) → AreTexts program → SameUnit unit (unit_of program) → StandApart unit
    → WithinLimits (CRun unit w) n

-- The same of programs, which print on the output alone.
pub record ProgramsAreQuiet : Type 0 where
  pub within : (program : Program) (w : World) (n : ℕ) → WithinLimits (VRun program w) n
  pub no_error : (program : Program) (w : World) (n : ℕ) → printed Err ((VRun program w).trace n) ≡ []
