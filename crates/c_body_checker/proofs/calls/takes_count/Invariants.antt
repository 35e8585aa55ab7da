use Rattle.std.proofs.Common.{◌≡◌, drop, map}
use Rattle.c_tree.specs.Rules.{takes_count}
use Rattle.c_body_checker.specs.Rows.{parameter_seen}
use Rattle.c_body_checker.proofs.calls.takes_count.Given as goal

abbrev pub invariant-loop-parameter : goal.invariant-loop-parameter
invariant-loop-parameter l = takes_count (map parameter_seen (drop l.parameter-index l.parameters)) l.count ≡ takes_count (map parameter_seen l.parameters)
    l.fn.count
