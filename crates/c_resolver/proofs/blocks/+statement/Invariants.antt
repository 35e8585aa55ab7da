use Rattle.std.proofs.Common.{◌≡◌, ◌++◌, drop, map}
use Rattle.c_meaning.specs.Code.{all_code}
use Rattle.c_resolver.specs.Plans.{code_at, code_in, slot_seen}
use Rattle.c_resolver.specs.Shown.{scope_seen, tables_seen}
use Rattle.c_resolver.proofs.blocks.+statement.Given as goal

abbrev pub invariant-stmts-loop-stmt : goal.invariant-stmts-loop-stmt
invariant-stmts-loop-stmt l = record {
  code : l.row ++ map (code_at l.plan.gives l.plan.labels (tables_seen l.tables)) (all_code (map code_in (drop l.stmt-index l.body))
      (map slot_seen l.plan.slots) (scope_seen l.fn.scope))
      ≡ map (code_at l.plan.gives l.plan.labels (tables_seen l.tables)) (all_code (map code_in l.body) (map slot_seen l.plan.slots) (scope_seen l.fn.scope));
  names : scope_seen l.scope ≡ scope_seen l.fn.scope;
}
