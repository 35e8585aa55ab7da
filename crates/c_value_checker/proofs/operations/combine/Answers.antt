use Rattle.std.proofs.Common.{◌∙◌, ap, refl, false}
use Rattle.c_tree.specs.Checks.{join_outcome, operand_if}
use Rattle.c_value_checker.specs.Seen.{seen}
use Rattle.c_value_checker.proofs.OutcomeLemmas.{settled_faults, settled_kind}
use Rattle.c_value_checker.proofs.operations.combine.Goals as goal

pub returns-clause-value : goal.returns-clause-value
returns-clause-value c = c.operand_if.ensures ∙ ap (λ k. operand_if k false) (settled_kind (join_outcome (seen c.args.environment.now) c.args.operator c.args.a c.args.b) _ _ c.join_outcome-outcome.ensures c.settle.ensures.kind)

pub returns-clause-faults : goal.returns-clause-faults
returns-clause-faults c = settled_faults (join_outcome (seen c.args.environment.now) c.args.operator c.args.a c.args.b) _ c.args.span c.args.span _ _ c.join_outcome-outcome.ensures refl c.settle.ensures.fault
