-- The run stands before the first step, and the functions have their code there.
use Rattle.std.proofs.Common.{◌≡◌, ◌∙◌, ap, subst, true, []}
use Rattle.vg_base.specs.World.{World}
use Rattle.c_meaning.specs.Code.{program_by, reading}
use Rattle.c_meaning.specs.Layout.{declared}
use Rattle.c_meaning.specs.Runs.{opening_by}
use Rattle.c_code.specs.Statements.{have_code, routine_codes}
use Rattle.c_opening.specs.Opens.{tables_at}
use Rattle.c_opening.proofs.opening.open.Goals as goal

pub returns-in-Ok : goal.returns-in-Ok
returns-in-Ok c =
    let w : World = record { name = c.args.name.now; input = c.args.input.items; entries = [] } in
    let e = c.in_ok-opening.ensures in
    record {
      shows = e.stands.shows;
      routines =
          c.in-Ok.ensures.code ∙ ap (routine_codes (declared c.in_ok-opening.opening.tables.unit.now)) e.stands.tables
          ∙ ap (λ u. routine_codes (declared u) (tables_at u (opening_by reading c.args.unit.now w))) e.unit_is;
      own = e.own;
      code = subst (λ u. have_code (program_by reading u).routines ≡ true) e.unit_is c.in-Ok.ensures.calls;
    }
