-- So many unset cells stand behind.
use Rattle.std.proofs.Common.{◌≡◌, ◌++◌, replicate}
use Rattle.c_meaning.specs.declared.cell.Cell.TheVariants.{Unset}
use Rattle.c_run_state.proofs.blocks.with_unset.Given as goal

abbrev pub invariant-loop : goal.invariant-loop
invariant-loop l = l.all.items ≡ l.cells ++ replicate l.counter Unset
