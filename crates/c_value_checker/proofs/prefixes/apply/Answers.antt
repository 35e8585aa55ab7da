use Rattle.c_tree.specs.Checks.{prefix_by}
use Rattle.c_tree.specs.Faults.{on}
use Rattle.c_value_checker.specs.Seen.{seen}
use Rattle.c_value_checker.proofs.OutcomeLemmas.{settled_faults, settled_kind}
use Rattle.c_value_checker.proofs.prefixes.apply.Goals as goal

pub returns-clause-value : goal.returns-clause-value
returns-clause-value c = settled_kind (on c.args.kind (prefix_by (seen c.args.environment.now) c.args.operator.now.prefix)) _ _ c.in_ok-outcome.ensures c.settle.ensures.kind

pub returns-clause-faults : goal.returns-clause-faults
returns-clause-faults c = settled_faults (on c.args.kind (prefix_by (seen c.args.environment.now) c.args.operator.now.prefix)) _ _ _ _ _ c.in_ok-outcome.ensures c.join.ensures c.settle.ensures.fault
