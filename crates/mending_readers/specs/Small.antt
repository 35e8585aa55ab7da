-- A small grammar that is mended: that of sums, calls and acts, with the way that ends soonest as the last of each choice.
use Rattle.std.specs.Prelude.{◌≡◌, ℕ, List, [], ◌∷◌}
use Rattle.predictive_grammar.specs.Forms.{give, part, pick, Productions}
use Rattle.predictive_grammar.specs.Steps.{Limits}
use Rattle.predictive_grammar.specs.Reading.{reader}
use Rattle.predictive_grammar.specs.Small.{Kind, Number, Name, Plus, Open, Close, Comma, If, Else, Semicolon, same, Token, NoItem, Item, Call, Part, Sum, Items, More, small, here, one, begins_sum, tables}
use Rattle.predictive_grammar.specs.Small as small
use Rattle.mending_readers.specs.Mending.{Supply, Going, mender, Mends}

-- the forms: the items of a call may begin with a sum, or there are none
abbrev pub forms : Productions small
forms (Items f) = pick begins_sum (part here Sum (λ a. part here (More f 1 (Item NoItem a)) (λ b. give b))) (one here 0 Close (λ t. give (Call f NoItem)))
forms p = small.forms p

-- a token without a value
abbrev pub made : Kind → Token
made x = record { kind = x; value = 0 }

-- what is made up: a number for a sum
abbrev pub made_up : Supply small
made_up = record {
  offers = λ rest. made Number ∷ made Close ∷ made Open ∷ made Semicolon ∷ made Comma ∷ made Plus ∷ made If ∷ made Else ∷ [];
  otherwise = λ rest before. made Name;
  moved = λ rest t. made t.kind;
}

-- it has no value
abbrev pub IsNew : List Token → Token → Type 0
IsNew rest t = t.value ≡ 0

-- The mending reader of each part gives the tree that its reader reads, or where that finds a fault the tree of a text that goes on so.
abbrev pub IsMendedSmall : Type 0
IsMendedSmall = (p : Part) (l : ℕ) (limits : Limits) (input : List Token)
    → Mends small forms p l limits (reader small forms tables.top tables.rank limits p l) IsNew input (mender small forms made_up tables.top 3 tables.rank limits p l (Going input))
