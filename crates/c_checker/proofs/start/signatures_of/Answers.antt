use Rattle.std.proofs.Common.{refl, get_or, map}
use Rattle.c_checker.specs.Tables.{signature_seen}
use Rattle.c_value_checker.specs.Seen.{takes_seen}
use Rattle.c_body_checker.proofs.CallLemmas.{at_place}
use Rattle.c_checker.proofs.StartLemmas.{no_signature}
use Rattle.c_checker.proofs.Steps.{kept_step}
use Rattle.c_checker.proofs.start.signatures_of.Goals as goal

pub loop-row-preserved : goal.loop-row-preserved
loop-row-preserved c = kept_step takes_seen signature_seen (map signature_seen) (λ x l. refl) c.args.rows.now c.loop-row.row-index (get_or c.args.rows.now c.loop-row.row-index no_signature) c.loop-row.found c.push.new.self c.in_ok-one.one _
    (at_place c.args.rows.now c.loop-row.row-index no_signature c.loop-row-test.true) c.in_ok-one.ensures c.in_ok-push.ensures c.loop-row.invariant
