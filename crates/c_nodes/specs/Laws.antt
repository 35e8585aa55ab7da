-- What the laws speak of.
use Rattle.std.specs.Prelude.{◌≡◌}
use Rattle.c_tree.specs.Words.{Token, Word}
use Rattle.c_grammar.specs.Parts.{Starred}
use Rattle.c_grammar.specs.Trees.{type_of}
use Rattle.c_nodes.specs.Rows.{row_of, stars_of, type_in_rows}

-- A type is told by where the tokens around its base stand.
abbrev pub TypesAreInRows : Type 0
TypesAreInRows = (u : Word) (t : Token) (v : Word) (s : Starred) → type_of u t v s ≡ type_in_rows (row_of u) t (row_of v) (stars_of s)
