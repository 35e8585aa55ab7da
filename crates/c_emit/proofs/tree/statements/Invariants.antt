use Rattle.std.proofs.Common.{◌≡◌, map, take}
use Rattle.c_emit.specs.Emission.{print_stmt}
use Rattle.c_emit.proofs.tree.statements.Given as goal

-- so far the statements of the texts that were met
abbrev pub invariant-loop-text : goal.invariant-loop-text
invariant-loop-text l = l.body ≡ map print_stmt (take l.text-index l.texts)
