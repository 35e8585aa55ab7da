-- Static items, and the type of a function, by smaller steps.
use Rattle.std.specs.Prelude.{ℕ, suc, Bool, true, false, Some}
use Rattle.mending_readers.specs.Mending.{mend_then}
use Rattle.c_lexer.specs.declared.token.Sign.TheVariants as sign
use Rattle.c_tree.specs.declared.names.CType.{CType}
use Rattle.c_tree.specs.declared.unit.Item.{Item}
use Rattle.c_tree.specs.declared.unit.Signature.{Signature}
use Rattle.c_tree.specs.Names.{Names}
use Rattle.c_tree.specs.Words.{Token}
use Rattle.c_grammar.specs.Parts as part
use Rattle.c_grammar.specs.Trees as tree
use Rattle.c_grammar.specs.Tests.{is_main}
use Rattle.c_cursor.specs.declared.sets.Set.TheVariants as set
use Rattle.c_cursor.specs.Reading.{Read, Place, one, read, way}
use Rattle.c_parser.specs.Pieces.{value_behind}

-- whether `=` follows the name of something, which it must behind `main`
abbrev pub assigned_object : ℕ → Names → Bool → ℕ → Place → Read Bool
assigned_object e ns true l s = mend_then (one e ns (set.Sign sign.Assign) l s) (λ a z. Some (true, z))
assigned_object e ns false l s = way ns (set.Sign sign.Assign) s (mend_then (one e ns (set.Sign sign.Assign) l s) (λ a z. Some (true, z))) (Some (false, s))

-- whether `=` follows a name; it does not where nothing has the type
unfoldable pub assigned : ℕ → Names → Bool → Token → ℕ → Place → Read Bool
assigned e ns true n l s = assigned_object e ns (is_main n.bytes) l s
assigned e ns false n l s = Some (false, s)

-- what follows the name, and `=` or not
abbrev pub static_behind : ℕ → Names → Token → CType → Bool → Token → Bool → ℕ → Place → Read Item
static_behind e ns t c may n true l s = value_behind e ns may c n l s
static_behind e ns t c may n false l s = read e ns (part.DeclaredOf true c n t.start) l s

-- `(GInterfaceInitFunc)`, by its last bracket
unfoldable pub init_word : ℕ → Names → ℕ → Place → Read Token
init_word e ns l s = mend_then (one e ns (set.Sign sign.OpenParen) (suc l) s)
    (λ p z. mend_then (one e ns set.InitFunc (suc l) z) (λ y w. one e ns (set.Sign sign.CloseParen) l w))

-- `, NULL`
unfoldable pub comma_null : ℕ → Names → ℕ → Place → Read Token
comma_null e ns l s = mend_then (one e ns (set.Sign sign.Comma) l s) (λ d z. one e ns set.Null l z)

-- `(*F)`, by the name
unfoldable pub pointed_name : ℕ → Names → ℕ → Place → Read Token
pointed_name e ns l s = mend_then (one e ns (set.Sign sign.OpenParen) (suc l) s) (λ o z. mend_then (one e ns (set.Sign sign.Star) (suc l) z)
    (λ x y. mend_then (one e ns set.Name (suc l) y) (λ n w. mend_then (one e ns (set.Sign sign.CloseParen) l w) (λ c v. Some (n, v)))))

-- `(parameters)` behind the name of the type of a function that gives this type, as what it takes and gives
unfoldable pub type_signature : ℕ → Names → CType → Token → ℕ → ℕ → Place → Read Signature
type_signature e ns r n from l s = mend_then (one e ns (set.Sign sign.OpenParen) (suc l) s) (λ p z. mend_then (read e ns (part.ParametersOf false) (suc l) z)
    (λ ps y. mend_then (one e ns (set.Sign sign.CloseParen) l y) (λ q w. Some (tree.signature false r n ps from q, w))))
