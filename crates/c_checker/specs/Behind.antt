-- What is declared behind items.
use Rattle.std.specs.Prelude.{List, [], ◌∷◌}
use Rattle.c_tree.specs.declared.unit.Item.{Item}
use Rattle.c_tree.specs.Env.{Env}
use Rattle.c_tree.specs.Unit.{with_item}

-- what is declared behind items
abbrev pub behind : Env → List Item → Env
behind env [] = env
behind env (i ∷ is) = behind (with_item env i) is
