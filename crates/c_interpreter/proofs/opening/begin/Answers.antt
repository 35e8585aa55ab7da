use Rattle.c_meaning.specs.Layout.{declared}
use Rattle.c_meaning.specs.Runs.{state_after}
use Rattle.c_opening.specs.Opened.{IsOpened}
use Rattle.c_interpreter.specs.Kept.{world_of}
use Rattle.c_interpreter.proofs.opening.begin.Goals as goal

pub returns-clause-stands : goal.returns-clause-stands
returns-clause-stands c =
    let unit = c.args.unit.now in
    let world = world_of c.args.name.now c.args.input.items in
    let opened : IsOpened unit world c.in_ok-opened.opened = c.in_ok-opened.ensures in
    record {
      shows = c.begin_step.ensures.emptied (declared unit) (state_after unit world 0) opened.shows;
      code = opened.routines;
      called = opened.code;
      kept = c.no_events.ensures.none;
    }
