use Rattle.std.proofs.Common.{◌≡◌, ◌++◌, drop, map}
use Rattle.c_meaning.specs.Code.{literals_of, reading}
use Rattle.c_resolver.specs.Shown.{literal_seen}
use Rattle.c_resolver.proofs.texts.add_items.Given as goal

abbrev pub invariant-loop-item : goal.invariant-loop-item
invariant-loop-item l = map literal_seen l.literals ++ literals_of reading
    (drop l.item-index l.items) ≡ map literal_seen l.fn.literals ++ literals_of reading l.items
