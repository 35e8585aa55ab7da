use Rattle.std.proofs.Common.{ap, ◌∙◌}
use Rattle.c_tree.specs.Unit.{again, signature_faults, with_function}
use Rattle.c_tree.specs.Env.{found}
use Rattle.std.proofs.Common.{false}
use Rattle.c_value_checker.specs.Seen.{seen}
use Rattle.c_value_checker.proofs.NotedLemmas.{noted_both, on_ok}
use Rattle.c_checker.proofs.items.check_prototype.Goals as goal

pub returns-clause-names : goal.returns-clause-names
returns-clause-names c = on_ok c.add_function.result c.add_function.ensures (λ e. e ∙ ap (λ x. with_function x c.args.signature.now false) c.in_ok-check_signature.ensures.names)

pub returns-clause-faults : goal.returns-clause-faults
returns-clause-faults c = on_ok c.add_function.result c.add_function.ensures (λ e. noted_both c.args.findings.now c.check_again.new.findings c.check_signature.new.findings (again (seen c.args.environment.now) c.args.signature.now false (found (seen c.args.environment.now).scopes c.args.signature.now.name.text)) (signature_faults (seen c.args.environment.now) c.args.signature.now) c.in_ok-check_again.ensures c.in_ok-check_signature.ensures.faults)
