-- Where the text literals of a unit and the locals of its bodies stand.
use Rattle.std.specs.Prelude.{ℕ, suc, ◌≤◌, List, [], ◌∷◌}
use Rattle.c_tree.specs.declared.code.Local.{Local}
use Rattle.c_tree.specs.declared.unit.Item.{Item}
use Rattle.c_tree.specs.declared.unit.Item.TheVariants as item
use Rattle.c_tree.specs.declared.unit.Unit.{Unit as CUnit}
use Rattle.c_meaning.specs.State.{Literal}
use Rattle.c_meaning.specs.Code.{reading, literals_of, locals_of}

-- from a place on, literals stand one behind another
abbrev pub Rise : ℕ → List Literal → Type 0
Rise from [] = Unit {0}
Rise from (l ∷ ls) = (from ≤ l.start) × Rise (suc l.start) ls

-- the text literals of a unit stand at places of their own, in order
abbrev pub StandApart : CUnit → Type 0
StandApart unit = Rise 0 (literals_of reading unit.items)

-- from a place on, the names of declarations stand one behind another
abbrev pub NamesRise : ℕ → List Local → Type 0
NamesRise from [] = Unit {0}
NamesRise from (l ∷ ls) = (from ≤ l.name.span.start) × NamesRise (suc l.name.span.start) ls

-- the names of the locals of each body stand at places of their own, in order
abbrev pub LocalsApart : List Item → Type 0
LocalsApart [] = Unit {0}
LocalsApart (item.Function f ∷ is) = NamesRise 0 (locals_of f.body) × LocalsApart is
LocalsApart (i ∷ is) = LocalsApart is
