use Rattle.c_tree.specs.declared.kinds.Sort.TheVariants as sort
use Rattle.c_tree.specs.Env.{declare}
use Rattle.std.proofs.Common.{ap, ◌∙◌, ◌++◌}
use Rattle.c_value_checker.specs.Seen.{seen}
use Rattle.c_tree.specs.Checks.{checked}
use Rattle.c_tree.specs.Rules.{fit}
use Rattle.c_tree.specs.Unit.{ends_faults}
use Rattle.c_value_checker.specs.Noted.{noted}
use Rattle.c_value_checker.proofs.NotedLemmas.{on_ok}
use Rattle.c_checker.proofs.ItemLemmas.{variable_noted}
use Rattle.c_checker.proofs.items.check_variable.Goals as goal

pub returns-clause-faults : goal.returns-clause-faults
returns-clause-faults c = on_ok c.declare.result c.declare.ensures (λ e. variable_noted (seen c.args.environment.now) c.args.variable.now c.args.findings.now c.judge_variable.new.findings c.check_initial.new.findings c.in_ok-kind.ensures.faults
    (c.in_ok-check_initial.ensures ∙ ap (λ k. noted c.judge_variable.new.findings ((checked c.args.variable.now.value).value.faults (seen c.args.environment.now) ++ fit (seen c.args.environment.now) k (checked c.args.variable.now.value)
    ++ ends_faults ((checked c.args.variable.now.value).value.kind (seen c.args.environment.now)) ((checked c.args.variable.now.value).value.worth (seen c.args.environment.now)) (checked c.args.variable.now.value).span)) c.in_ok-kind.ensures.kind))

pub returns-clause-names : goal.returns-clause-names
returns-clause-names c = on_ok c.declare.result c.declare.ensures (λ e. e ∙ ap (λ k. declare (seen c.args.environment.now) c.args.variable.now.name (sort.Variable k)) c.in_ok-kind.ensures.kind)
