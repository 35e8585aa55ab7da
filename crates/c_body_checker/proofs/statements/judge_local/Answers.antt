use Rattle.std.proofs.Common.{◌∙◌, ◌++◌, ap}
use Rattle.c_tree.specs.Checks.{type_faults}
use Rattle.c_tree.specs.Env.{kind_of}
use Rattle.c_tree.specs.Rules.{not_laid_out, twice_here}
use Rattle.c_value_checker.specs.Noted.{noted}
use Rattle.c_value_checker.specs.Seen.{seen}
use Rattle.c_value_checker.proofs.NotedLemmas.{noted_both}
use Rattle.c_body_checker.proofs.statements.judge_local.Goals as goal

pub returns-clause-faults : goal.returns-clause-faults
returns-clause-faults c =
    noted_both c.args.findings.now c.check_new.new.findings c.check_laid_out.new.findings
    (type_faults (seen c.args.environment.now) c.args.local.now.declared ++ twice_here (seen c.args.environment.now) c.args.local.now.name)
    (not_laid_out (seen c.args.environment.now) (kind_of (seen c.args.environment.now) c.args.local.now.declared) c.args.local.now.name)
    (noted_both c.args.findings.now c.check_type.new.findings c.check_new.new.findings (type_faults (seen c.args.environment.now) c.args.local.now.declared)
    (twice_here (seen c.args.environment.now) c.args.local.now.name) c.check_type.ensures c.check_new.ensures)
    (c.check_laid_out.ensures ∙ ap (λ k. noted c.check_new.new.findings (not_laid_out (seen c.args.environment.now) k c.args.local.now.name)) c.in_ok-kind.ensures)
