use Rattle.std.proofs.Common.{◌∙◌, ap, codes}
use Rattle.c_tree.specs.declared.kinds.Sort.TheVariants as sort
use Rattle.c_tree.specs.Env.{declare, found}
use Rattle.c_tree.specs.Rules.{not_laid_out}
use Rattle.c_tree.specs.Unit.{function_faults, kind_named, variable_twice}
use Rattle.c_value_checker.specs.Noted.{noted}
use Rattle.c_value_checker.specs.Seen.{seen}
use Rattle.c_value_checker.proofs.NotedLemmas.{on_ok}
use Rattle.c_checker.proofs.ItemLemmas.{noted_three}
use Rattle.c_checker.proofs.items.check_table.Goals as goal

pub returns-clause-names : goal.returns-clause-names
returns-clause-names c = on_ok c.declare.result c.declare.ensures (λ e. e ∙ ap (λ k. declare (seen c.args.environment.now) c.args.table.now.name (sort.Variable k)) c.table_kind-kind.ensures)

pub returns-clause-faults : goal.returns-clause-faults
returns-clause-faults c = on_ok c.declare.result c.declare.ensures (λ e. noted_three c.args.findings.now c.check_variable_name.new.findings c.check_laid_out.new.findings c.check_function_name.new.findings
    (variable_twice (found (seen c.args.environment.now).scopes c.args.table.now.name.text) c.args.table.now.name) (not_laid_out (seen c.args.environment.now) (kind_named (seen c.args.environment.now) (codes "GInterfaceInfo")) c.args.table.now.name) (function_faults (found (seen c.args.environment.now).scopes c.args.table.now.init.text) c.args.table.now.init)
    c.check_variable_name.ensures (c.check_laid_out.ensures ∙ ap (λ k. noted c.check_variable_name.new.findings (not_laid_out (seen c.args.environment.now) k c.args.table.now.name)) c.table_kind-kind.ensures) c.check_function_name.ensures)
