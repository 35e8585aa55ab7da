-- The text literals of a unit begin with tokens of its own, in order, and so do the names of the locals of each body.
use Rattle.std.proofs.Common.{List, [], ◌∷◌}
use Rattle.c_tree.specs.declared.unit.Item.{Item}
use Rattle.c_tree.specs.declared.unit.Item.TheVariants as item
use Rattle.c_tree.specs.Names.{Names}
use Rattle.c_tree.specs.Words.{Word}
use Rattle.c_tree.specs.Items as it
use Rattle.c_tree.specs.Items.{ReadsItem, ReadsItems, no_item, more_items}
use Rattle.c_meaning.specs.Code.{reading, item_texts, literals_of, locals_of}
use Rattle.c_places.specs.Apart.{NamesRise, LocalsApart}
use Rattle.c_places.proofs.Picks.{none, pass, append, nothing, behind, Rising, rising_front, rising_back, names_rise}
use Rattle.c_places.proofs.Values.{Stand, value_stands}
use Rattle.c_places.proofs.Statements.{block_stands, block_named}

-- 1. Text literals

item_stands : {ns : Names} {w : Word} {i : Item} → ReadsItem ns w i → Stand (item_texts reading i) w
item_stands {w} (it.includes a b c d e) = nothing w
item_stands {w} (it.struct_type a b c d e) = nothing w
item_stands {w} (it.struct_is r e a b c rf d f) = nothing w
item_stands {w} (it.enum_is r n e a b c rm rms d f h) = nothing w
item_stands {w} (it.function_type o s n c e a rc b d f h rp k) = nothing w
item_stands {w} (it.prototype e rs a) = nothing w
item_stands (it.static_variable {t} n a e {u} b rc o d f rx h) = behind (append (nothing (t ∷ u)) (pass n (pass a (value_stands rx)))) (e ∷ [])
item_stands {w} (it.interface_table i1 i2 i3 i4 i5 i6 i7 i8 i9 j1 j2 j3 j4 j5 j6 j7) = nothing w
item_stands (it.function_is {u} rs names rb) = append (nothing u) (block_stands rb)

pub items_stand : {ns : Names} {w : Word} {is : List Item} → ReadsItems ns w is → Stand (literals_of reading is) w
items_stand no_item = none
items_stand (more_items r e rest) = append (item_stands r) (items_stand rest)

-- 2. Locals

-- the names of the locals of an item stand apart
abbrev ItemApart : Item → Type 0
ItemApart (item.Function f) = NamesRise 0 (locals_of f.body)
ItemApart i = Unit {0}

item_apart : {ns : Names} {w : Word} {i : Item} → ReadsItem ns w i → Rising 0 w → ItemApart i
item_apart (it.includes a b c d e) g = tt
item_apart (it.struct_type a b c d e) g = tt
item_apart (it.struct_is r e a b c rf d f) g = tt
item_apart (it.enum_is r n e a b c rm rms d f h) g = tt
item_apart (it.function_type o s n c e a rc b d f h rp k) g = tt
item_apart (it.prototype e rs a) g = tt
item_apart (it.static_variable n a e b rc o d f rx h) g = tt
item_apart (it.interface_table i1 i2 i3 i4 i5 i6 i7 i8 i9 j1 j2 j3 j4 j5 j6 j7) g = tt
item_apart (it.function_is {u} {w} rs names rb) g = names_rise 0 (block_named rb) (rising_back u w 0 g)

one_more : (i : Item) (is : List Item) → ItemApart i → LocalsApart is → LocalsApart (i ∷ is)
one_more (item.Function f) is a r = (a, r)
one_more i is a r = r

pub items_apart : {ns : Names} {w : Word} {is : List Item} → ReadsItems ns w is → Rising 0 w → LocalsApart is
items_apart no_item g = tt
items_apart (more_items {u} {w} {i} {is} r e rest) g = one_more i is (item_apart r (rising_front 0 u w g)) (items_apart rest (rising_back u w 0 g))
