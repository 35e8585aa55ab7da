use Rattle.c_value_checker.proofs.NotedLemmas.{behind_step}
use Rattle.c_body_checker.proofs.statements.check_call_alone.Goals as goal

pub returns : goal.returns
returns c = behind_step c.args.findings.now c.begin-floor.new.self c.check_call.new.findings _ c.begin-floor.result _ c.begin-floor.ensures.now
    c.begin-floor.ensures.before c.in_ok-check_call.ensures.faults
