use Rattle.std.proofs.Common.{◌≡◌, ◌≤◌, drop, length}
use Rattle.c_tree.specs.Kinds.{same_list}
use Rattle.c_value_checker.proofs.takes.same_list.Given as goal

abbrev pub invariant-loop-kind : goal.invariant-loop-kind
invariant-loop-kind l = record {
  index : l.index ≡ l.kind-index;
  within : l.kind-index ≤ length l.b;
  same : same_list (drop l.kind-index l.a) (drop l.kind-index l.b) ≡ same_list l.a l.b;
}
