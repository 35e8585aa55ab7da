use Rattle.c_value_checker.proofs.NotedLemmas.{behind_step, on_ok}
use Rattle.c_body_checker.proofs.statements.check_local.Goals as goal

pub returns-clause-faults : goal.returns-clause-faults
returns-clause-faults c = on_ok c.declare.result c.declare.ensures
    (λ e. behind_step c.args.findings.now c.begin-floor.new.self c.judge_local.new.findings _ c.begin-floor.result _ c.begin-floor.ensures.now
    c.begin-floor.ensures.before c.in_ok-kind.ensures.faults)
