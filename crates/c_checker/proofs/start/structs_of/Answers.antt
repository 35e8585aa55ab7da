use Rattle.std.proofs.Common.{refl, get_or, map}
use Rattle.c_checker.specs.Tables.{struct_seen}
use Rattle.c_value_checker.specs.Structures.{structure_seen}
use Rattle.c_body_checker.proofs.CallLemmas.{at_place}
use Rattle.c_checker.proofs.StartLemmas.{no_struct}
use Rattle.c_checker.proofs.Steps.{place_step}
use Rattle.c_checker.proofs.start.structs_of.Goals as goal

pub loop-row-preserved : goal.loop-row-preserved
loop-row-preserved c = place_step struct_seen (map struct_seen) (λ x l. refl) c.args.rows.now c.loop-row.row-index (get_or c.args.rows.now c.loop-row.row-index no_struct) c.loop-row.found c.push.new.self (structure_seen c.in_ok-one.one) _
    (at_place c.args.rows.now c.loop-row.row-index no_struct c.loop-row-test.true) c.in_ok-one.ensures c.in_ok-push.ensures c.loop-row.invariant
