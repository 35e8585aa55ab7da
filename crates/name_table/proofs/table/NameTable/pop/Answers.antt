-- The entry that the latest one hid is the latest of its name again.
use Rattle.std.proofs.Common.{◌≡◌, List, [], ◌∷◌, ◌++◌, reverse, subst}
use Rattle.name_table.specs.declared.entry.Entry.{Entry}
use Rattle.name_table.specs.Index.{IsLinked, IsIndexed, listed}
use Rattle.name_table.proofs.Linked.{linked-pop, indexed-pop, latest_is}
use Rattle.name_table.proofs.table.NameTable.pop.Goals as goal

pub invariant_of-self : goal.invariant_of-self
invariant_of-self g c =
    let is : c.self.inside.entries.items ≡ c.pop.new.self.items ++ c.in-Some.entry ∷ [] = c.in-Some.ensures.items in
    let Linked : List (Entry g.row.T.Denot) → Type 0 = λ es. IsLinked (reverse es) in
    let linked = subst Linked is c.self.invariant.0 in
    let Indexed : List (Entry g.row.T.Denot) → Type 0 = λ es. IsIndexed c.self.inside.index (listed es) in
    let indexed = subst Indexed is c.self.invariant.1 in
    ((linked-pop c.pop.new.self.items c.in-Some.entry linked).1, indexed-pop c.self.inside.index c.uncover.new.index c.pop.new.self.items c.in-Some.entry linked indexed c.uncover.ensures)

pub uncover-requires : goal.uncover-requires
uncover-requires g c =
    let is : c.self.inside.entries.items ≡ c.pop.new.self.items ++ c.in-Some.entry ∷ [] = c.in-Some.ensures.items in
    let Indexed : List (Entry g.row.T.Denot) → Type 0 = λ es. IsIndexed c.self.inside.index (listed es) in
    latest_is c.self.inside.index c.pop.new.self.items c.in-Some.entry (subst Indexed is c.self.invariant.1)
