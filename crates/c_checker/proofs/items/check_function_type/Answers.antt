use Rattle.std.proofs.Common.{ap, ◌∙◌}
use Rattle.c_tree.specs.Rules.{twice_here}
use Rattle.c_tree.specs.Unit.{new_function_type, signature_faults}
use Rattle.c_value_checker.specs.Seen.{seen}
use Rattle.c_value_checker.proofs.NotedLemmas.{noted_both, on_ok}
use Rattle.c_checker.proofs.items.check_function_type.Goals as goal

pub returns-clause-names : goal.returns-clause-names
returns-clause-names c = on_ok c.add_function_type.result c.add_function_type.ensures (λ e. e ∙ ap (λ x. new_function_type x c.args.signature.now) c.in_ok-check_signature.ensures.names)

pub returns-clause-faults : goal.returns-clause-faults
returns-clause-faults c = on_ok c.add_function_type.result c.add_function_type.ensures (λ e. noted_both c.args.findings.now c.check_new.new.findings c.check_signature.new.findings (twice_here (seen c.args.environment.now) c.args.signature.now.name) (signature_faults (seen c.args.environment.now) c.args.signature.now) c.check_new.ensures c.in_ok-check_signature.ensures.faults)
