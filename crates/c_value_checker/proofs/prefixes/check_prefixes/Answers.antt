use Rattle.std.proofs.Common.{◌∙◌, ap, sym}
use Rattle.c_value_checker.specs.Noted.{noted}
use Rattle.c_value_checker.specs.Prefixes.{casts_faults, operators_faults}
use Rattle.c_value_checker.specs.Seen.{seen}
use Rattle.c_value_checker.proofs.NotedLemmas.{noted_both}
use Rattle.c_value_checker.proofs.PrefixLemmas.{prefix_apart}
use Rattle.c_value_checker.proofs.prefixes.check_prefixes.Goals as goal

pub returns-clause-faults : goal.returns-clause-faults
returns-clause-faults c =
    noted_both c.args.findings.now c.check_casts.new.findings c.apply_all.new.findings (casts_faults (seen c.args.environment.now) c.args.operators.now) (operators_faults (seen c.args.environment.now) c.args.operators.now c.args.operand.kind c.args.last)
    c.check_casts.ensures c.in_ok-kind.ensures.faults
    ∙ ap (noted c.args.findings.now) (sym (prefix_apart (seen c.args.environment.now) c.args.operators.now c.args.operand.kind c.args.last))
