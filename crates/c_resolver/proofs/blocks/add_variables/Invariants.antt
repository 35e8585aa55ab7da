use Rattle.std.proofs.Common.{◌≡◌, drop, map}
use Rattle.c_meaning.specs.Code.{with_variables}
use Rattle.c_resolver.specs.Plans.{slot_seen}
use Rattle.c_resolver.specs.Shown.{variable_seen}
use Rattle.c_resolver.proofs.blocks.add_variables.Given as goal

abbrev pub invariant-loop-local : goal.invariant-loop-local
invariant-loop-local l = with_variables (map slot_seen l.slots) (map variable_seen l.variables) (drop l.local-index l.locals)
    ≡ with_variables (map slot_seen l.slots) (map variable_seen l.fn.variables) l.locals
