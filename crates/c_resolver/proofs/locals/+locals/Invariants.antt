use Rattle.std.proofs.Common.{◌≡◌, ◌+◌, ◌++◌, drop, map}
use Rattle.c_meaning.specs.Code.{flat_locals, locals_cells, slots}
use Rattle.c_value_checker.specs.Seen.{seen}
use Rattle.c_resolver.specs.Plans.{locals_in, slot_seen}
use Rattle.c_resolver.proofs.locals.+locals.Given as goal

abbrev pub invariant-add_stmts-loop-stmt : goal.invariant-add_stmts-loop-stmt
invariant-add_stmts-loop-stmt l = record {
  slots : map slot_seen l.slots ++ slots (seen l.environment) l.at (flat_locals
      (map locals_in (drop l.stmt-index l.stmts))) ≡ map slot_seen l.fn.slots ++ slots (seen l.environment) l.fn.at (flat_locals (map locals_in l.stmts));
  cells : l.at + locals_cells (seen l.environment) (flat_locals (map locals_in (drop l.stmt-index l.stmts))) ≡ l.fn.at + locals_cells (seen
      l.environment) (flat_locals (map locals_in l.stmts));
}
