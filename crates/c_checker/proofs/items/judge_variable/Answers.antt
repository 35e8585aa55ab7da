use Rattle.std.proofs.Common.{◌∙◌, ap}
use Rattle.c_tree.specs.Checks.{type_faults}
use Rattle.c_tree.specs.Env.{found, kind_of}
use Rattle.c_tree.specs.Rules.{not_laid_out}
use Rattle.c_tree.specs.Unit.{variable_twice}
use Rattle.c_value_checker.specs.Noted.{noted}
use Rattle.c_value_checker.specs.Seen.{seen}
use Rattle.c_checker.proofs.ItemLemmas.{noted_three}
use Rattle.c_checker.proofs.items.judge_variable.Goals as goal

pub returns-clause-faults : goal.returns-clause-faults
returns-clause-faults c = noted_three c.args.findings.now c.check_type.new.findings c.check_variable_name.new.findings c.check_laid_out.new.findings (type_faults (seen c.args.environment.now) c.args.variable.now.declared) (variable_twice (found (seen c.args.environment.now).scopes c.args.variable.now.name.text) c.args.variable.now.name) (not_laid_out (seen c.args.environment.now) (kind_of (seen c.args.environment.now) c.args.variable.now.declared) c.args.variable.now.name)
    c.check_type.ensures c.check_variable_name.ensures (c.check_laid_out.ensures ∙ ap (λ k. noted c.check_variable_name.new.findings (not_laid_out (seen c.args.environment.now) k c.args.variable.now.name)) c.in_ok-kind.ensures)
