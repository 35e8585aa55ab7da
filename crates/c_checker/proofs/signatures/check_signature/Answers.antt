use Rattle.std.proofs.Common.{◌∙◌, ap}
use Rattle.c_tree.specs.Checks.{type_faults}
use Rattle.c_tree.specs.Env.{opened}
use Rattle.c_tree.specs.Unit.{parameter_faults}
use Rattle.c_value_checker.specs.Noted.{noted}
use Rattle.c_value_checker.specs.Seen.{seen}
use Rattle.c_value_checker.proofs.NotedLemmas.{noted_both, on_ok}
use Rattle.c_checker.proofs.signatures.check_signature.Goals as goal

pub returns-clause-faults : goal.returns-clause-faults
returns-clause-faults c = on_ok c.check_scope.result c.check_scope.ensures.faults (λ e. noted_both c.args.findings.now c.check_type.new.findings c.check_scope.new.findings (type_faults (seen c.args.environment.now) c.args.signature.now.result) (parameter_faults (opened (seen c.args.environment.now)) c.args.signature.now.parameters)
    c.check_type.ensures (e ∙ ap (λ l. noted c.check_type.new.findings (parameter_faults (opened (seen c.args.environment.now)) l)) c.as_slice.ensures))
