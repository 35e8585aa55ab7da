-- The kinds of the choices behind have been taken.
use Rattle.std.proofs.Common.{◌≡◌, ◌≤◌, Ok, length, map, take}
use Rattle.c_evaluator.specs.Parts.{alternative_coded, in_kinds}
use Rattle.c_code.specs.Values.{value_seen}
use Rattle.c_evaluator.proofs.evaluate.in_kinds.Given as goal

abbrev pub invariant-loop-index : goal.invariant-loop-index
invariant-loop-index l = record {
  within : l.index ≤ length l.alternatives;
  kinds : in_kinds (map alternative_coded (take l.index l.alternatives)) (Ok (value_seen l.value)) ≡ in_kinds (map alternative_coded l.alternatives) (Ok (value_seen l.fn.value));
}

abbrev pub decreases-loop-index : goal.decreases-loop-index
decreases-loop-index l = l.index
