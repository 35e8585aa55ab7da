use Rattle.std.proofs.Common.{◌≡◌, drop}
use Rattle.c_value_checker.specs.Seen.{seen}
use Rattle.c_checker.specs.Behind.{behind}
use Rattle.c_checker.proofs.unit.declare_items.Given as goal

abbrev pub invariant-loop-item : goal.invariant-loop-item
invariant-loop-item l = behind (seen l.environment) (drop l.item-index l.items) ≡ behind (seen l.fn.environment) l.items
