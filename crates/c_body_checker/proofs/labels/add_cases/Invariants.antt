use Rattle.std.proofs.Common.{◌≡◌, ◌++◌, drop}
use Rattle.c_tree.specs.Rules.{case_targets}
use Rattle.c_body_checker.proofs.labels.add_cases.Given as goal

abbrev pub invariant-loop-case : goal.invariant-loop-case
invariant-loop-case l = l.names.items ++ case_targets (drop l.case-index l.cases) ≡ l.fn.names.items ++ case_targets l.cases
