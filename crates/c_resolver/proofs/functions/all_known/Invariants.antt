use Rattle.std.proofs.Common.{◌≡◌, [], drop}
use Rattle.c_resolver.specs.Routines.{all_known}
use Rattle.c_resolver.specs.Shown.{scope_seen, tables_seen}
use Rattle.c_resolver.proofs.functions.all_known.Given as goal

abbrev pub invariant-loop-item : goal.invariant-loop-item
invariant-loop-item l = record {
  known : all_known (scope_seen l.fn.scope).env (tables_seen l.tables) l.known (drop l.item-index l.items) ≡ all_known (scope_seen
      l.fn.scope).env (tables_seen l.tables) [] l.items;
  names : scope_seen l.scope ≡ scope_seen l.fn.scope;
}
