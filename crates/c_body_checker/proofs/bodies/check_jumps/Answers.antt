use Rattle.std.proofs.Common.{◌∙◌}
use Rattle.c_body_checker.proofs.BodyLemmas.{jumps_noted}
use Rattle.c_body_checker.proofs.bodies.check_jumps.Goals as goal

pub returns : goal.returns
returns c = jumps_noted c.args.body.now _ _ _ _ c.args.findings.now c.check_labels.new.findings c.check_targets.new.findings
    (c.deref.ensures.value ∙ c.in_ok-found.ensures.labels) c.in_ok-table.ensures.labels
    (c.deref-2.ensures.value ∙ c.in_ok-found.ensures.targets) c.block_end.ensures
    c.in_ok-table.ensures.faults c.check_targets.ensures
