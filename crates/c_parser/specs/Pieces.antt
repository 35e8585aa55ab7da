-- Pieces of parts, by the steps that they are read by.
use Rattle.std.specs.Prelude.{ℕ, suc, Bool, true, false, ◌||◌, ◌&&◌, is_some, not, if◌then◌else◌, List, [], ◌∷◌, ◌++◌, Option, Some, None}
use Rattle.mending_readers.specs.Mending.{mend_then, mend_token}
use Rattle.c_lexer.specs.declared.token.Keyword.TheVariants as keyword
use Rattle.c_lexer.specs.declared.token.Sign.TheVariants as sign
use Rattle.c_tree.specs.declared.names.CType.{CType}
use Rattle.c_tree.specs.declared.names.Name.{Name}
use Rattle.c_tree.specs.declared.names.Span.{Span}
use Rattle.c_tree.specs.declared.unit.Item.{Item}
use Rattle.c_tree.specs.declared.unit.Item.TheVariants as item
use Rattle.c_tree.specs.declared.unit.Parameter.{Parameter}
use Rattle.c_tree.specs.declared.unit.Signature.{Signature}
use Rattle.c_tree.specs.declared.operators.Prefix.TheVariants as prefix
use Rattle.c_tree.specs.declared.operators.Prefix.{Prefix}
use Rattle.c_tree.specs.declared.operators.PrefixOperator.{PrefixOperator}
use Rattle.c_tree.specs.declared.code.Expr.{Expr}
use Rattle.c_tree.specs.declared.code.Case.{Case}
use Rattle.c_tree.specs.declared.code.Local.{Local}
use Rattle.c_tree.specs.declared.code.Stmt.{Stmt}
use Rattle.c_tree.specs.declared.code.Stmt.TheVariants as stmt
use Rattle.c_tree.specs.Make.{name_at, bracketed}
use Rattle.c_tree.specs.Names.{Names, Role, RowName, role_of, with_local, with_parameters}
use Rattle.c_tree.specs.Types.{can_be_type, is_object}
use Rattle.c_tree.specs.Words.{Token, at, join}
use Rattle.c_grammar.specs.Grammar.{C}
use Rattle.c_grammar.specs.Laws.{c_limits}
use Rattle.c_grammar.specs.Mending.{made_up}
use Rattle.c_grammar.specs.Parts as part
use Rattle.c_grammar.specs.Tests.{is_main, is_name_of}
use Rattle.c_grammar.specs.Trees as tree
use Rattle.c_nodes.specs.Rows.{row_of, stars_of, type_in_rows}
use Rattle.c_cursor.specs.declared.sets.Set.TheVariants as set
use Rattle.c_cursor.specs.Gives.{seen_by}
use Rattle.c_cursor.specs.Reading.{Read, Place, one, is_next, read, way, give, first_then, behind}
use Rattle.c_parser.specs.Rows.{no_stars}
use Rattle.c_cursor.specs.Sets.{is_info}

-- 1. Types, by where the tokens around their base stand

-- what follows these `const` and this base
unfoldable pub type_rest : ℕ → Names → Option Span → Token → Bool → ℕ → Place → Read CType
type_rest e ns b t must l s =
    mend_then (seen_by row_of (read e ns part.Consts l s)) (λ v z. mend_then (seen_by stars_of (read e ns (part.Stars must) l z))
    (λ k y. Some (type_in_rows b t v k, y)))

-- the same where there is something
unfoldable pub type_more : ℕ → Names → Option Span → Token → ℕ → Place → Read CType
type_more e ns b t l s =
    mend_then (seen_by row_of (read e ns part.Consts l s)) (λ v z. mend_then (seen_by stars_of (read e ns (part.Stars (not (is_some v))) l z))
    (λ k y. Some (type_in_rows b t v k, y)))

-- 2. Values

-- a value and the bracket behind it, of which this is the one in front
unfoldable pub bracketed_of : ℕ → Names → Bool → Token → ℕ → Place → Read Expr
bracketed_of e ns c t l s = mend_then (read e ns (part.Value c) (suc l) s)
    (λ a z. mend_then (one e ns (set.Sign sign.CloseParen) l z) (λ x y. Some (bracketed (join (at t) (at x)) a, y)))

-- a value in brackets
unfoldable pub value_inside : ℕ → Names → ℕ → Place → Read Expr
value_inside e ns l s =
    mend_then (one e ns (set.Sign sign.OpenParen) (suc l) s)
    (λ o z. mend_then (read e ns (part.Value false) (suc l) z) (λ a y. mend_then (one e ns (set.Sign sign.CloseParen) l y) (λ x w. Some (a, w))))

-- whether an operator is `&`
abbrev pub is_address : Prefix → Bool
is_address prefix.AddressOf = true
is_address p = false

-- what an operator stands before
abbrev pub operand_of : ℕ → Names → Bool → Bool → ℕ → Place → Read (List PrefixOperator × Expr)
operand_of e ns true c l s = read e ns part.Place l s
operand_of e ns false c l s = read e ns (part.Prefixed c) l s

-- an operand with this operator before it
unfoldable pub prefixed_of : ℕ → Names → Bool → PrefixOperator → ℕ → Place → Read Expr
prefixed_of e ns c p l s = mend_then (operand_of e ns (is_address p.prefix) c l s) (λ r z. Some (tree.with_prefixes (tree.one_prefix p r), z))

-- the same with an operator that is not `&`
unfoldable pub starred_of : ℕ → Names → PrefixOperator → ℕ → Place → Read Expr
starred_of e ns p l s = mend_then (read e ns (part.Prefixed false) l s) (λ r z. Some (tree.with_prefixes (tree.one_prefix p r), z))

-- 3. Statements

-- what follows the name of a function of the library, which takes a type first or not
unfoldable pub row_behind : ℕ → Names → Option Expr → Token → Bool → ℕ → Place → Read Stmt
row_behind e ns b n false l s = mend_then (one e ns (set.Sign sign.OpenParen) (suc l) s) (λ o z. mend_then (read e ns part.Arguments (suc l) z) (λ xs y.
    mend_then (one e ns (set.Sign sign.CloseParen) l y) (λ x w. mend_then (one e ns (set.Sign sign.Semicolon) l w)
    (λ q v. Some (tree.call_stmt b (tree.row_call n None xs x), v)))))
row_behind e ns b n true l s = mend_then (one e ns (set.Sign sign.OpenParen) (suc l) s)
    (λ o z. mend_then (read e ns (part.AnyType true true) (suc l) z) (λ c u. mend_then (read e ns part.MoreArguments (suc l) u) (λ xs y.
    mend_then (one e ns (set.Sign sign.CloseParen) l y) (λ x w. mend_then (one e ns (set.Sign sign.Semicolon) l w)
    (λ q v. Some (tree.call_stmt b (tree.row_call n (Some c) xs x), v))))))

-- `:` and `;` behind the name of a label
unfoldable pub label_behind : ℕ → Names → Token → ℕ → Place → Read Stmt
label_behind e ns t l s = mend_then (one e ns (set.Sign sign.Colon) l s)
    (λ c z. mend_then (one e ns (set.Sign sign.Semicolon) l z) (λ x y. Some (stmt.Label (name_at t), y)))

-- whether a name of this role is a function of the library, and whether it takes a type first
abbrev pub takes_type : Role → Option Bool
takes_type (RowName b) = Some b
takes_type r = None

-- what follows a name that is no label
abbrev pub called : ℕ → Names → Token → Option Bool → ℕ → Place → Read Stmt
called e ns t (Some b) l s = row_behind e ns None t b l s
called e ns t None l s = read e ns (part.ValueStmt (tree.name_value ns t)) l s

-- what follows a name that a statement begins with, by its role
unfoldable pub named : ℕ → Names → Token → Role → ℕ → Place → Read Stmt
named e ns t r l s = if can_be_type false r || is_next ns (set.Sign sign.Colon) s then label_behind e ns t l s else called e ns t (takes_type r) l s

-- cases, and the `default` behind them
unfoldable pub with_cases : List Case → Read Token → Read (List Case × Token)
with_cases cs o = give (λ n. (cs, n)) o

-- a case in front of others
unfoldable pub case_then : Case → Read (List Case × Token) → Read (List Case × Token)
case_then c o = give (λ r. (c ∷ r.0, r.1)) o

-- cases in front of others
unfoldable pub cases_then : List Case → Read (List Case × Token) → Read (List Case × Token)
cases_then cs o = give (λ r. (cs ++ r.0, r.1)) o

-- the `default` of a `switch`
unfoldable pub default_of : ℕ → Names → ℕ → Place → Read Token
default_of e ns l s = mend_then (one e ns (set.Word keyword.Default) l s)
    (λ d z. mend_then (one e ns (set.Sign sign.Colon) l z) (λ c y. read e ns part.GotoOf l y))

-- what follows `if`, a value and a block
unfoldable pub else_of : ℕ → Names → Expr → part.tree_of part.BlockOf → ℕ → Place → Read Stmt
else_of e ns a b l s = way ns (set.Word keyword.Else) s (mend_then (one e ns (set.Word keyword.Else) l s)
    (λ x z. mend_then (read e ns part.BlockOf l z) (λ d y. Some (stmt.If a b (Some d), y)))) (Some (stmt.If a b None, s))

-- what follows `if` and a value
unfoldable pub if_behind : ℕ → Names → Expr → ℕ → Place → Read Stmt
if_behind e ns a l s = way ns (set.Word keyword.Goto) s (mend_then (read e ns part.GotoOf l s) (λ n z. Some (stmt.IfGoto a (name_at n), z)))
    (mend_then (read e ns part.BlockOf l s) (λ b z. else_of e ns a b l z))

-- what follows `switch` and a value
unfoldable pub switch_behind : ℕ → Names → Expr → ℕ → Place → Read Stmt
switch_behind e ns a l s = mend_then (one e ns (set.Sign sign.OpenBrace) (suc l) s)
    (λ o z. mend_then (read e ns part.Cases (suc l) z) (λ r y. mend_then (one e ns (set.Sign sign.CloseBrace) l y)
    (λ x w. Some (stmt.Switch a r.0 (name_at r.1), w))))

-- what follows `return`
unfoldable pub return_behind : ℕ → Names → Token → ℕ → Place → Read Stmt
return_behind e ns t l s = way ns (set.Sign sign.Semicolon) s (mend_then (one e ns (set.Sign sign.Semicolon) l s) (λ x z. Some (stmt.Return (at t) None, z)))
    (mend_then (read e ns (part.Value false) l s) (λ a z. mend_then (one e ns (set.Sign sign.Semicolon) l z) (λ x y. Some (stmt.Return (at t) (Some a), y))))

-- a statement that begins with a keyword
unfoldable pub word_stmt : ℕ → Names → ℕ → Place → Read Stmt
word_stmt e ns l s =
    way ns (set.Word keyword.If) s (mend_then (one e ns (set.Word keyword.If) l s) (λ i z. mend_then (value_inside e ns l z) (λ a y. if_behind e ns a l y)))
    (way ns (set.Word keyword.Goto) s (mend_then (read e ns part.GotoOf l s) (λ n z. Some (stmt.Goto (name_at n), z)))
    (way ns (set.Word keyword.Switch) s (mend_then (one e ns (set.Word keyword.Switch) l s)
    (λ i z. mend_then (value_inside e ns l z) (λ a y. switch_behind e ns a l y)))
    (mend_then (one e ns (set.Word keyword.Return) l s) (λ t z. return_behind e ns t l z))))

-- 4. Blocks

-- the name of a declaration and `;`, behind its type
unfoldable pub local_end : ℕ → Names → CType → ℕ → Place → Read Local
local_end e ns c l s = mend_then (one e ns set.Name l s) (λ n z. mend_then (one e ns (set.Sign sign.Semicolon) l z) (λ x y. Some (tree.local c n, y)))

-- declarations and statements
abbrev pub Parts : Type 0
Parts = List Local × List Stmt

-- a declaration in front of others
unfoldable pub local_then : Local → Read Parts → Read Parts
local_then x o = give (λ r. (x ∷ r.0, r.1)) o

-- declarations in front of others
unfoldable pub locals_then : List Local → Read Parts → Read Parts
locals_then xs o = give (λ r. (xs ++ r.0, r.1)) o

-- a statement in front of others
unfoldable pub statement_then : Stmt → Read (List Stmt) → Read Parts
statement_then x o = give (λ xs. ([], x ∷ xs)) o

-- what follows a declaration
abbrev pub local_behind : ℕ → Names → Local → ℕ → Place → Read Parts
local_behind e ns x l s = local_then x (read e (with_local ns x) part.Body l s)

-- what follows a statement
abbrev pub statement_behind : ℕ → Names → Stmt → ℕ → Place → Read Parts
statement_behind e ns x l s = statement_then x (read e ns part.Statements l s)

-- what follows a name that a declaration or a statement begins with
unfoldable pub body_named : ℕ → Names → Token → ℕ → Place → Read Parts
body_named e ns t l s =
    if can_be_type true (role_of ns t.bytes) && is_next ns set.LocalMore s
    then mend_then (read e ns (part.LocalRest t) l s) (λ x z. local_behind e ns x l z)
    else mend_then (read e ns (part.NamedStmt t) l s) (λ x z. statement_behind e ns x l z)

-- 5. Parameters

-- the parameters so far, and one more of this type
unfoldable pub pushed : ℕ → Names → List Parameter → CType → ℕ → Place → Read (List Parameter)
pushed e ns ps c l s = give (λ p. ps ++ p ∷ []) (read e ns (part.ParameterEnd c) l s)

-- a parameter of this type, and those behind it
unfoldable pub parameter_then : ℕ → Names → CType → ℕ → Place → Read (List Parameter)
parameter_then e ns c l s = mend_then (read e ns (part.ParameterEnd c) l s) (λ p z. first_then p (read e ns part.MoreParameters l z))

-- the type of the first parameter behind these `const`
abbrev pub first_base : ℕ → Names → Option Span → ℕ → Place → Read (Option CType)
first_base e ns None l s = mend_then (one e ns set.OtherBase l s) (λ b z. give Some (type_rest e ns None b false l z))
first_base e ns (Some r) l s = mend_then (one e ns (set.Base true) l s) (λ b z. give Some (type_rest e ns (Some r) b (tree.is_void b) l z))

-- the type of the first parameter; none where `void` stands alone
unfoldable pub first_type : ℕ → Names → ℕ → Place → Read (Option CType)
first_type e ns l s = way ns (set.Word keyword.Void) s
    (mend_then (one e ns (set.Word keyword.Void) l s) (λ t z. way ns set.TypeMore z (give Some (type_rest e ns None t true l z)) (Some (None, z))))
    (mend_then (seen_by row_of (read e ns part.Consts l s)) (λ r z. first_base e ns r l z))

-- what follows it
abbrev pub parameters_behind : ℕ → Names → Option CType → ℕ → Place → Read (List Parameter)
parameters_behind e ns None l s = Some ([], s)
parameters_behind e ns (Some c) l s = mend_then (pushed e ns [] c l s) (λ ps z. behind ps (read e ns part.MoreParameters l z))

-- a name that may be missing, and others
abbrev pub text_then : Option Name → List (List ℕ) → List (List ℕ)
text_then None ws = ws
text_then (Some n) ws = n.text ∷ ws

-- the names of parameters
abbrev pub named_texts : List Parameter → List (List ℕ)
named_texts [] = []
named_texts (p ∷ ps) = text_then p.name (named_texts ps)

-- 6. Items

-- the braces of a table, behind `=`
unfoldable pub table_behind : ℕ → Names → Token → ℕ → Place → Read Item
table_behind e ns n l s = mend_then (one e ns (set.Sign sign.OpenBrace) (suc l) s)
    (λ o z. mend_then (read e ns part.TableInside (suc l) z) (λ g y. mend_then (one e ns (set.Sign sign.CloseBrace) l y)
    (λ x w. mend_then (one e ns (set.Sign sign.Semicolon) l w) (λ q v. Some (item.InterfaceTable (record { name = name_at n; init = name_at g }), v)))))

-- the value of a static variable, behind `=`
unfoldable pub variable_behind : ℕ → Names → CType → Token → ℕ → Place → Read Item
variable_behind e ns c n l s = mend_then (read e ns (part.Value true) l s)
    (λ a z. mend_then (one e ns (set.Sign sign.Semicolon) l z) (λ x y. Some (item.Variable (record { declared = c; name = name_at n; value = a }), y)))

-- what follows `=` behind the name of a static item, which may be a table or not
abbrev pub value_behind : ℕ → Names → Bool → CType → Token → ℕ → Place → Read Item
value_behind e ns may c n l s = if may && is_next ns (set.Sign sign.OpenBrace) s then table_behind e ns n l s else variable_behind e ns c n l s

-- what follows the type of a static item, which may be a table or not
unfoldable pub static_end : ℕ → Names → Token → CType → Bool → ℕ → Place → Read Item
static_end e ns t c may l s = mend_then (one e ns (set.FreeName (is_object c)) l s) (λ n z.
    if is_object c
    then (if is_main n.bytes then mend_then (one e ns (set.Sign sign.Assign) l z) (λ a y. value_behind e ns may c n l y)
    else way ns (set.Sign sign.Assign) z (mend_then (one e ns (set.Sign sign.Assign) l z) (λ a y. value_behind e ns may c n l y))
    (read e ns (part.DeclaredOf true c n t.start) l z))
    else read e ns (part.DeclaredOf true c n t.start) l z)

-- the type of a static item, from its base on
unfoldable pub static_type : ℕ → Names → Token → Option Span → Token → ℕ → Place → Read Item
static_type e ns t b n l s = mend_then (type_rest e ns b n false l s) (λ c z. read e ns (part.StaticEnd t c) l z)

-- the type of an item, from its base on
unfoldable pub typed_item : ℕ → Names → Option Span → Token → ℕ → Place → Read Item
typed_item e ns b n l s = mend_then (type_rest e ns b n false l s) (λ c z. read e ns (part.TypedEnd c) l z)

-- what follows `)` of a function, by whether all parameters have names; the function is in scope
unfoldable pub declared_end : ℕ → Names → Bool → Signature → ℕ → Place → Read Item
declared_end e ns false x l s = mend_then (one e ns (set.Sign sign.Semicolon) l s) (λ q z. Some (item.Prototype x, z))
declared_end e ns true x l s = way ns (set.Sign sign.Semicolon) s (mend_then (one e ns (set.Sign sign.Semicolon) l s) (λ q z. Some (item.Prototype x, z)))
    (mend_then (read e (with_parameters ns x.parameters) part.BlockOf l s) (λ b z. Some (item.Function (record { signature = x; body = b }), z)))

-- a name with the letters of this tag behind the first
unfoldable pub tag_named : ℕ → Token → ℕ → Place → Read Token
tag_named e g l s = Some (mend_token C (made_up e) c_limits l 0 (is_name_of (tree.behind_first g.bytes)) (g ∷ []) s)

-- `_X X;`
unfoldable pub struct_type : ℕ → Names → ℕ → Place → Read Item
struct_type e ns l s = mend_then (one e ns set.Tag l s) (λ g z. mend_then (tag_named e g l z)
    (λ n y. mend_then (one e ns (set.Sign sign.Semicolon) l y) (λ q w. Some (item.StructType (name_at n), w))))

-- `{ members } X;`
unfoldable pub enumeration : ℕ → Names → ℕ → Place → Read Item
enumeration e ns l s = mend_then (one e ns (set.Sign sign.OpenBrace) (suc l) s)
    (λ o z. mend_then (read e ns part.Members (suc l) z) (λ ms y. mend_then (one e ns (set.Sign sign.CloseBrace) l y)
    (λ x w. mend_then (one e ns set.Name l w) (λ n v. mend_then (one e ns (set.Sign sign.Semicolon) l v)
    (λ q u. Some (item.Enumeration (record { members = ms; name = name_at n }), u))))))

-- `R (*F) (parameters);`
unfoldable pub function_type : ℕ → Names → Token → ℕ → Place → Read Item
function_type e ns t l s = mend_then (read e ns (part.AnyType true false) l s)
    (λ r z. mend_then (one e ns (set.Sign sign.OpenParen) (suc l) z) (λ o y. mend_then (one e ns (set.Sign sign.Star) (suc l) y)
    (λ x w. mend_then (one e ns set.Name (suc l) w) (λ n v. mend_then (one e ns (set.Sign sign.CloseParen) l v)
    (λ c u. mend_then (one e ns (set.Sign sign.OpenParen) (suc l) u)
    (λ p i. mend_then (read e ns (part.ParametersOf false) (suc l) i)
    (λ ps j. mend_then (one e ns (set.Sign sign.CloseParen) l j) (λ q k. mend_then (one e ns (set.Sign sign.Semicolon) l k)
    (λ m h. Some (item.FunctionType (tree.signature false r n ps t.start q), h))))))))))

-- `_X { fields };`
unfoldable pub struct_rest : ℕ → Names → ℕ → Place → Read Item
struct_rest e ns l s = mend_then (one e ns set.Tag l s) (λ g z. mend_then (one e ns (set.Sign sign.OpenBrace) (suc l) z)
    (λ o y. mend_then (read e ns part.Fields (suc l) y)
    (λ fs w. mend_then (one e ns (set.Sign sign.CloseBrace) l w)
    (λ x v. mend_then (one e ns (set.Sign sign.Semicolon) l v) (λ q u. Some (item.Struct (record { name = tree.struct_name g; fields = fs }), u))))))

-- what follows `static const GInterfaceInfo`
unfoldable pub info_end : ℕ → Names → Token → Option Span → Token → ℕ → Place → Read Item
info_end e ns t b i l s =
    if can_be_type true (role_of ns i.bytes)
    then way ns set.TypeMore s (mend_then (type_more e ns b i l s) (λ d z. read e ns (part.StaticEnd t d) l z))
    (static_end e ns t (type_in_rows b i None no_stars) true l s)
    else mend_then (one e ns set.Name l s) (λ n z. mend_then (one e ns (set.Sign sign.Assign) l z) (λ a y. table_behind e ns n l y))

-- what follows `static const` and a name
unfoldable pub static_named : ℕ → Names → Token → Token → Token → ℕ → Place → Read Item
static_named e ns t k i l s = if is_info i.bytes then info_end e ns t (Some (at k)) i l s else static_type e ns t (Some (at k)) i l s

-- what follows `static const` and this many more `const`
abbrev pub static_base : ℕ → Names → Token → Token → Option Span → ℕ → Place → Read Item
static_base e ns t k None l s = mend_then (one e ns set.KeyBase l s) (λ b z. static_type e ns t (Some (at k)) b l z)
static_base e ns t k (Some r) l s = mend_then (one e ns (set.Base true) l s) (λ b z. static_type e ns t (Some (join (at k) r)) b l z)
