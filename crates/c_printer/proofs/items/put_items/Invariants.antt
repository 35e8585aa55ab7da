use Rattle.std.proofs.Common.{◌≡◌, drop, None}
use Rattle.c_printer.specs.Text.{seen}
use Rattle.c_printer.specs.Marks.{put_marks}
use Rattle.c_printer.specs.PutItems.{items_marks}
use Rattle.c_printer.proofs.items.put_items.Given as goal

abbrev pub invariant-loop-item : goal.invariant-loop-item
invariant-loop-item l = put_marks (seen l.out) (items_marks l.brackets l.before (drop l.item-index l.items)) ≡ put_marks (seen l.initial.out) (items_marks l.brackets None l.items)
