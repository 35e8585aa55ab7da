use Rattle.std.proofs.Common.{ap, ◌∙◌, ◌++◌}
use Rattle.c_tree.specs.Unit.{unlaid_parameters, unlaid_result}
use Rattle.c_value_checker.specs.Noted.{noted}
use Rattle.c_value_checker.specs.Seen.{seen}
use Rattle.c_value_checker.proofs.NotedLemmas.{on_ok}
use Rattle.c_checker.proofs.ItemLemmas.{head_noted}
use Rattle.c_checker.proofs.items.check_head.Goals as goal

pub returns-clause-faults : goal.returns-clause-faults
returns-clause-faults c = on_ok c.check_definition.result c.check_definition.ensures (λ e. head_noted (seen c.args.environment.now) c.args.signature.now c.args.findings.now c.check_again.new.findings c.check_signature.new.findings c.check_definition.new.findings c.in_ok-check_again.ensures c.in_ok-check_signature.ensures.faults
    (e ∙ ap (λ x. noted c.check_signature.new.findings (unlaid_result x c.args.signature.now ++ unlaid_parameters x c.args.signature.now.span c.args.signature.now.parameters)) c.in_ok-check_signature.ensures.names))
