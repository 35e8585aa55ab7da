use Rattle.c_value_checker.specs.Seen.{seen}
use Rattle.c_value_checker.proofs.NotedLemmas.{on_ok}
use Rattle.c_body_checker.proofs.BodyLemmas.{body_noted}
use Rattle.c_body_checker.proofs.bodies.check_body.Goals as goal

pub returns-clause-faults : goal.returns-clause-faults
returns-clause-faults c = on_ok c.check_jumps.result c.check_jumps.ensures (λ e.
    body_noted (seen c.args.environment.now) c.args.gives c.args.body.now c.args.findings.now c.check_block.new.findings c.check_jumps.new.findings
    c.in_ok-check_block.ensures.faults e)
