-- All is added to a run with an input and nothing else.
use Rattle.std.proofs.Common.{◌∙◌, refl, ap, map, []}
use Rattle.vg_base.specs.World.{World}
use Rattle.c_meaning.specs.Layout.{declared}
use Rattle.c_code.specs.Resolved.{Tables}
use Rattle.c_resolver.specs.Shown.{fixed_seen, literal_seen, standing_seen}
use Rattle.c_opening.proofs.Entries.{run_entered}
use Rattle.c_opening.proofs.opening.entered.Goals as goal

pub returns : goal.returns
returns c =
    let w : World = record { name = c.args.name.now; input = c.args.input.items; entries = [] } in
    run_entered c.args.unit.now w (record { run = c.new-3.result; tables = c.in_ok-tables.tables }) c.add_literals.new.self c.add_statics.new.self c.add_types.new.self
    c.enter_main.new.self c.as_slice.result.now c.as_slice-2.result.now c.in_ok-tables.ensures.unit
    (record {
      shows = c.new-3.ensures (declared c.args.unit.now) w refl;
      literals = ap (λ (t : Tables). t.literals) c.in_ok-tables.ensures.seen ∙ ap (map standing_seen) c.new.ensures;
      statics = ap (λ (t : Tables). t.statics) c.in_ok-tables.ensures.seen ∙ ap (map fixed_seen) c.new-2.ensures;
      idle = refl;
    })
    (ap (map literal_seen) c.as_slice.ensures ∙ c.in_ok-texts.ensures) c.as_slice-2.ensures
    c.in_ok-add_literals.ensures c.in_ok-add_statics.ensures c.in_ok-add_types.ensures c.in_ok-enter_main.ensures
