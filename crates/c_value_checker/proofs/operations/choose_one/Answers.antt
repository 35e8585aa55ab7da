use Rattle.std.proofs.Common.{◌∙◌, ap, false}
use Rattle.c_tree.specs.Checks.{choice_outcome, operand_if}
use Rattle.c_value_checker.proofs.OutcomeLemmas.{settled_faults, settled_kind}
use Rattle.c_value_checker.proofs.operations.choose_one.Goals as goal

pub returns-clause-value : goal.returns-clause-value
returns-clause-value c = c.operand_if.ensures ∙ ap (λ k. operand_if k false) (settled_kind (choice_outcome c.args.choice.test c.args.choice.yes c.args.no) _ _ c.choice_outcome-outcome.ensures c.settle.ensures.kind)

pub returns-clause-faults : goal.returns-clause-faults
returns-clause-faults c = settled_faults (choice_outcome c.args.choice.test c.args.choice.yes c.args.no) _ _ _ _ _ c.choice_outcome-outcome.ensures c.join.ensures c.settle.ensures.fault
