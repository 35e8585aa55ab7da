-- What stands in statements.
use Rattle.std.specs.Prelude.{ℕ}
use Rattle.mending_readers.specs.Mending.{mend_then}
use Rattle.c_lexer.specs.declared.token.Sign.TheVariants as sign
use Rattle.c_tree.specs.declared.code.Stmt.{Stmt}
use Rattle.c_tree.specs.Names.{Names}
use Rattle.c_tree.specs.Words.{Token}
use Rattle.c_grammar.specs.Parts as part
use Rattle.c_grammar.specs.Trees as tree
use Rattle.c_cursor.specs.declared.sets.Set.TheVariants as set
use Rattle.c_cursor.specs.Reading.{Read, Place, one, read}
use Rattle.c_parser.specs.Pieces.{starred_of}

-- what follows this `*` that a statement begins with: the rest of the place, and what is stored to it
unfoldable pub star_behind : ℕ → Names → Token → ℕ → Place → Read Stmt
star_behind e ns t l s = mend_then (starred_of e ns (tree.sign_prefix t) l s)
    (λ a z. mend_then (one e ns (set.Sign sign.Assign) l z) (λ x y. read e ns (part.Assigned a) l y))
