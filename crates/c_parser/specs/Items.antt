-- What stands in items.
use Rattle.std.specs.Prelude.{◌≡◌, ℕ, List, [], ◌∷◌}
use Rattle.c_tree.specs.declared.unit.Item.{Item}
use Rattle.c_tree.specs.declared.unit.Item.TheVariants as item
use Rattle.c_tree.specs.declared.unit.Signature.{Signature}
use Rattle.c_tree.specs.Names.{Names, VariableName}
use Rattle.c_nodes.specs.declared.token.Token.{Token}

-- the letters of names
abbrev pub texts : List Token → List (List ℕ)
texts [] = []
texts (t ∷ ts) = t.text.now ∷ texts ts

-- names with variables of these letters in front
abbrev pub with_texts : Names → List (List ℕ) → Names
with_texts ns [] = ns
with_texts ns (w ∷ ws) = with_texts (record { name = w; role = VariableName } ∷ ns) ws

-- a prototype or a function of this signature
abbrev pub IsOf : Signature → Item → Type 0
IsOf s (item.Prototype x) = x ≡ s
IsOf s (item.Function f) = f.signature ≡ s
IsOf s i = ⊥
