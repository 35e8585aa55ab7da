-- What the rest of a list makes of what is there is what the whole list makes of what was given.
use Rattle.std.proofs.Common.{◌≡◌, Ok, drop, map, take}
use Rattle.c_code.specs.Coded.{Eval, all_moves, chosen, operated}
use Rattle.c_evaluator.specs.Parts.{alternative_coded, in_kinds, move_coded, operation_coded}
use Rattle.c_code.specs.Values.{value_seen}
use Rattle.c_evaluator.specs.Seen.{reached_seen}
use Rattle.c_evaluator.proofs.evaluate.+code.Given as goal

abbrev pub invariant-moved_on-loop-way : goal.invariant-moved_on-loop-way
invariant-moved_on-loop-way l =
    all_moves (map move_coded (drop l.way-index l.moves)) l.heap l.frame (Ok (reached_seen l.reached)) ≡ all_moves (map move_coded l.moves) l.heap l.frame (Ok (reached_seen l.fn.reached))

abbrev pub invariant-operated-loop-operation : goal.invariant-operated-loop-operation
invariant-operated-loop-operation l =
    operated l.heap l.frame (Ok (value_seen l.value)) (map operation_coded (drop l.operation-index l.operations)) ≡ operated l.heap l.frame (Ok (value_seen l.fn.value)) (map operation_coded l.operations)

abbrev pub invariant-chosen-loop-index : goal.invariant-chosen-loop-index
invariant-chosen-loop-index l = (e : Eval)
    → in_kinds (map alternative_coded (take l.index l.alternatives)) (chosen l.heap l.frame (map alternative_coded (drop l.index l.alternatives)) e)
    ≡ chosen l.heap l.frame (map alternative_coded l.alternatives) e
