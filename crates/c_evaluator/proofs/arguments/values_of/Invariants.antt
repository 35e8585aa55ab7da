-- What was answered so far stands in front of what the other arguments answer.
use Rattle.std.proofs.Common.{◌≡◌, drop, map}
use Rattle.c_code.specs.Machine.{values_of}
use Rattle.c_code.specs.Values.{value_seen}
use Rattle.c_evaluator.proofs.RowLaws.{behind}
use Rattle.c_evaluator.proofs.arguments.values_of.Given as goal

abbrev pub invariant-loop-code : goal.invariant-loop-code
invariant-loop-code l = values_of l.codes l.heap l.frame ≡ behind (map value_seen l.values.items) (values_of (drop l.code-index l.codes) l.heap l.frame)
