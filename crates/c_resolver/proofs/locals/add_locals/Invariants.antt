use Rattle.std.proofs.Common.{◌≡◌, ◌+◌, ◌++◌, drop, map}
use Rattle.c_meaning.specs.Code.{locals_cells, slots}
use Rattle.c_value_checker.specs.Seen.{seen}
use Rattle.c_resolver.specs.Plans.{slot_seen}
use Rattle.c_resolver.proofs.locals.add_locals.Given as goal

abbrev pub invariant-loop-local : goal.invariant-loop-local
invariant-loop-local l = record {
  slots : map slot_seen l.slots ++ slots (seen l.environment) l.at (drop l.local-index l.locals) ≡ map slot_seen l.fn.slots ++ slots (seen
      l.environment) l.fn.at (l.locals);
  cells : l.at + locals_cells (seen l.environment) (drop l.local-index l.locals) ≡ l.fn.at + locals_cells (seen l.environment) (l.locals);
}
