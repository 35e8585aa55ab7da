-- A run before its first step.
use Rattle.std.specs.Prelude.{◌≡◌, true}
use Rattle.vg_base.specs.World.{World}
use Rattle.c_tree.specs.declared.unit.Unit.{Unit as CUnit}
use Rattle.c_meaning.specs.Code.{program_by, reading}
use Rattle.c_meaning.specs.Layout.{declared}
use Rattle.c_meaning.specs.Runs.{opening_by}
use Rattle.c_code.specs.Statements.{have_code, routine_codes}
use Rattle.c_code.specs.Steady.{all_own}
use Rattle.c_run_state.specs.Shows.{Shows}
use Rattle.c_opening.specs.declared.opening.Opened.{Opened}
use Rattle.c_opening.specs.Opens.{tables_at}

-- The run shows the state before the first step of a unit in a world; its functions have their code, where names are what they are in that state.
pub record IsOpened (unit : CUnit) (w : World) (o : Opened) : Type 0 where
  pub shows : Shows (declared unit) o.run (opening_by reading unit w)
  pub routines : o.routines ≡ routine_codes (declared unit) (tables_at unit (opening_by reading unit w))
  pub own : all_own (opening_by reading unit w).work ≡ true
  pub code : have_code (program_by reading unit).routines ≡ true
