-- The calls of a unit that was read have code.
use Rattle.std.proofs.Common.{◌≡◌, true, List, ◌∷◌, refl}
use Rattle.c_tree.specs.declared.unit.Item.{Item}
use Rattle.c_tree.specs.Words.{Word}
use Rattle.c_tree.specs.Names.{FunctionName, Names, declared}
use Rattle.c_tree.specs.Items as it
use Rattle.c_tree.specs.Items.{ReadsItem, ReadsItems}
use Rattle.c_tree.specs.Answers.{reads, unit}
use Rattle.c_resolver.specs.Routines.{item_has_code, items_have_code}
use Rattle.c_calls.specs.Laws.{UnitsHaveCode}
use Rattle.c_calls.proofs.Names.{Coded, item_behind, library_coded, parameters_coded, put_function}
use Rattle.c_calls.proofs.Statements.{block_coded, both}

item_coded : {ns : Names} {w : Word} {i : Item} → Coded ns → ReadsItem ns w i → item_has_code i ≡ true
item_coded {ns} known (it.function_is {s} rs named rb) =
    block_coded (parameters_coded s.parameters (declared s.name FunctionName ∷ ns) (put_function s.name ns known)) rb
item_coded known (it.includes a b c d e) = refl
item_coded known (it.struct_type a b c d e) = refl
item_coded known (it.struct_is r e a b c d f g) = refl
item_coded known (it.enum_is r n e a b c d f g h i) = refl
item_coded known (it.function_type o s n c e h1 h2 h3 h4 h5 h6 h7 h8) = refl
item_coded known (it.prototype e a b) = refl
item_coded known (it.static_variable n a e h1 h2 h3 h4 h5 h6 h7) = refl
item_coded known (it.interface_table h1 h2 h3 h4 h5 h6 h7 h8 h9 h10 h11 h12 h13 h14 h15 h16) = refl

items_coded : {ns : Names} {w : Word} {is : List Item} → Coded ns → ReadsItems ns w is → items_have_code is ≡ true
items_coded known it.no_item = refl
items_coded known (it.more_items {ns} {i} r e rest) = both (item_coded known r) (items_coded (item_behind i ns known) rest)

pub units_coded : UnitsHaveCode
units_coded bytes limit u (reads _ ts short lexed (unit _ _ r sound)) = items_coded library_coded r.items
