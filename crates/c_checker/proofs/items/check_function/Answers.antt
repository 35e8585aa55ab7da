use Rattle.std.proofs.Common.{ap, true, ◌∙◌}
use Rattle.c_tree.specs.Unit.{with_function}
use Rattle.c_value_checker.specs.Seen.{seen}
use Rattle.c_value_checker.proofs.NotedLemmas.{on_ok}
use Rattle.c_checker.proofs.ItemLemmas.{function_noted}
use Rattle.c_checker.proofs.items.check_function.Goals as goal

pub returns-clause-names : goal.returns-clause-names
returns-clause-names c = on_ok c.check_function_body.result c.check_function_body.ensures.names (λ e. e ∙ c.in_ok-add_function.ensures ∙ ap (λ x. with_function x c.args.function.now.signature true) c.in_ok-check_head.ensures.names)

pub returns-clause-faults : goal.returns-clause-faults
returns-clause-faults c = on_ok c.check_function_body.result c.check_function_body.ensures.faults (λ e. function_noted (seen c.args.environment.now) (seen c.check_head.new.environment) (seen c.add_function.new.environment) c.args.function.now c.args.findings.now c.check_head.new.findings c.check_function_body.new.findings
    c.in_ok-check_head.ensures.names c.in_ok-check_head.ensures.faults c.in_ok-add_function.ensures e)
