-- The cells of the arguments so far stand in front of those of the others.
use Rattle.std.proofs.Common.{◌≡◌, ◌++◌, map, drop, Ok}
use Rattle.c_meaning.specs.Blocks.{bind}
use Rattle.c_code.specs.Machine.{argument_cells}
use Rattle.c_code.specs.Values.{value_seen}
use Rattle.c_steps.proofs.entries.argument_cells.Given as goal

abbrev pub invariant-loop-index : goal.invariant-loop-index
invariant-loop-index l =
    argument_cells l.parameters (map value_seen l.values) ≡ bind (argument_cells (drop l.index l.parameters) (map value_seen (drop l.index l.values)))
    (λ cs. Ok (l.cells.items ++ cs))
