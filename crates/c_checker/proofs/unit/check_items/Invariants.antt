use Rattle.std.proofs.Common.{◌≡◌, drop}
use Rattle.c_tree.specs.Checks.{checked}
use Rattle.c_tree.specs.Rules.{checked_block}
use Rattle.c_tree.specs.Unit.{items_faults}
use Rattle.c_value_checker.specs.Noted.{noted}
use Rattle.c_value_checker.specs.Seen.{seen}
use Rattle.c_checker.proofs.unit.check_items.Given as goal

abbrev pub invariant-loop-item : goal.invariant-loop-item
invariant-loop-item l = noted l.findings (items_faults checked (checked_block checked) (seen l.environment) (drop l.item-index l.items)) ≡ noted l.fn.findings (items_faults checked (checked_block checked) (seen l.fn.environment) l.items)
