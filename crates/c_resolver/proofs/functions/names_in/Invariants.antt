use Rattle.std.proofs.Common.{◌≡◌, [], drop}
use Rattle.c_resolver.specs.Routines.{all_names}
use Rattle.c_resolver.proofs.functions.names_in.Given as goal

abbrev pub invariant-loop-item : goal.invariant-loop-item
invariant-loop-item l = all_names l.names (drop l.item-index l.items) ≡ all_names [] l.items
