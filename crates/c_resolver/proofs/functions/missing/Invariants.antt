use Rattle.std.proofs.Common.{◌≡◌, drop}
use Rattle.c_resolver.specs.Routines.{items_have_code}
use Rattle.c_resolver.proofs.functions.missing.Given as goal

abbrev pub invariant-loop-item : goal.invariant-loop-item
invariant-loop-item l = items_have_code (drop l.item-index l.items) ≡ items_have_code l.items
