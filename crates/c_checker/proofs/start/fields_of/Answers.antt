use Rattle.std.proofs.Common.{refl, get_or, map}
use Rattle.c_checker.specs.Tables.{field_row}
use Rattle.c_value_checker.specs.Structures.{field_seen}
use Rattle.c_body_checker.proofs.CallLemmas.{at_place}
use Rattle.c_checker.proofs.StartLemmas.{no_named}
use Rattle.c_checker.proofs.Steps.{kept_step}
use Rattle.c_checker.proofs.start.fields_of.Goals as goal

pub loop-row-preserved : goal.loop-row-preserved
loop-row-preserved c = kept_step field_seen field_row (map field_row) (λ x l. refl) c.args.rows.now c.loop-row.row-index (get_or c.args.rows.now c.loop-row.row-index no_named) c.loop-row.fields c.push_field.new.fields c.in_ok-field.field _
    (at_place c.args.rows.now c.loop-row.row-index no_named c.loop-row-test.true) c.in_ok-field.ensures c.in_ok-push_field.ensures c.loop-row.invariant
