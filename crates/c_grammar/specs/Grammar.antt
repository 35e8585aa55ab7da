-- The grammar: the form of each part.
use Rattle.std.specs.Prelude.{ℕ, suc, not, Bool, true, false, ◌&&◌, List, [], ◌∷◌, Option, Some, None, codes}
use Rattle.std.specs.List.{list_all}
use Rattle.std.specs.Str.{bytes_eq}
use Rattle.predictive_grammar.specs.Forms.{Signature, Form, give, take, part, pick, Productions}
use Rattle.c_lexer.specs.declared.token.Keyword.TheVariants as keyword
use Rattle.c_lexer.specs.declared.token.Sign.{Sign}
use Rattle.c_lexer.specs.declared.token.Sign.TheVariants as sign
use Rattle.c_tree.specs.declared.operators.Level.{Level}
use Rattle.c_tree.specs.declared.operators.Level.TheVariants as level
use Rattle.c_tree.specs.declared.code.Expr.{Expr}
use Rattle.c_tree.specs.declared.names.CType.{CType}
use Rattle.c_tree.specs.declared.operators.PrefixOperator.{PrefixOperator}
use Rattle.c_tree.specs.declared.code.Suffix.{Suffix}
use Rattle.c_tree.specs.declared.code.Local.{Local}
use Rattle.c_tree.specs.declared.unit.Signature.{Signature as CSignature}
use Rattle.c_tree.specs.declared.unit.Item.{Item}
use Rattle.c_tree.specs.declared.unit.Item.TheVariants as item
use Rattle.c_tree.specs.declared.code.Stmt.{Stmt}
use Rattle.c_tree.specs.declared.code.Stmt.TheVariants as stmt
use Rattle.c_tree.specs.Words.{Token, Word, join}
use Rattle.c_tree.specs.Words as words
use Rattle.c_tree.specs.Names.{Names, Role, TypeName, RowName, FunctionName, role_of, declared, with_local, with_parameters, with_item, is_int}
use Rattle.c_tree.specs.Types.{can_be_type, is_object}
use Rattle.c_tree.specs.Items.{has_name, is_include}
use Rattle.c_tree.specs.Values.{is_place, tighter}
use Rattle.c_tree.specs.Make.{name_at, bracketed, link, choice, chained, suffixed, conditional, block}
use Rattle.c_grammar.specs.Sorts.{Kind, kind, Name, Number, Null, File, on}
use Rattle.c_grammar.specs.Tests.{Set, is, sign_is, word_is, name_with, is_base, begins_type, links, is_prefix, is_value_role, is_literal, begins_unnamed, begins_prefixed, is_field, is_callee_role, begins_key_type, is_key_base, goes_on_type, goes_on_local, begins_plain, begins_statement, on_line, begins_include, begins_item, is_int_base, is_char_base, is_other_base, is_main, is_name_of, is_include_word, is_tag, is_free_name, is_info_or_type}
use Rattle.c_grammar.specs.Trees.{is_void, type_of, no_stars, one_star, operator_in, sign_prefix, cast_prefix, with_prefixes, one_prefix, name_value, literal, size_of, offset, field_suffix, index_suffix, signed, local, value_call, row_call, call_stmt, one_case, behind_first, file_in, named_parameter, unnamed_parameter, two_stars, signature, struct_name}
use Rattle.c_grammar.specs.Parts.{What, Part, tree_of, at, Consts, Stars, TypeRest, TypeMore, AnyType, Value, Choosing, ChoosingTail, Upto, Links, Operand, Prefixed, Place, Primary, Unnamed, Suffixes, Arguments, MoreArguments, KeyType, LocalOf, LocalRest, SignedNumberOf, GotoOf, Cases, BlockOf, Body, Statements, Statement, PlainStmt, NamedStmt, ValueStmt, Assigned, AssignedTail, ElseOf, MemberOf, Members, MoreMembers, Fields, ParameterOf, ParameterEnd, MoreParameters, ParametersOf, IntType, TextsType, TableInside, DeclaredOf, TypedEnd, StaticEnd, InfoEnd, StaticRest, TypedefRest, ItemOf, ItemsOf}

-- nothing is left out with a word of its own
abbrev pub C : Signature
C = record { Token = Token; Kind = Kind; kind = kind; Part = Part; Tree = λ (p : Part). tree_of p.what; Label = ⊥ }

-- 1. Steps of a form

-- the level of the part
abbrev pub unchanged : ℕ → ℕ
unchanged l = l

-- one level up, inside a bracket
abbrev pub inside : ℕ → ℕ
inside l = suc l

-- a token of a class of the set
abbrev pub token : {r : Part} → Names → Set → (Token → Form C r) → Form C r
token ns test k = take unchanged 0 (on ns test) k

-- a sign that opens a bracket
abbrev pub opening : {r : Part} → Names → Sign → (Token → Form C r) → Form C r
opening ns s k = take inside 0 (on ns (sign_is s)) k

-- a token inside a bracket
abbrev pub token_inside : {r : Part} → Names → Set → (Token → Form C r) → Form C r
token_inside ns test k = take inside 0 (on ns test) k

-- any other sign
abbrev pub sign_here : {r : Part} → Names → Sign → (Token → Form C r) → Form C r
sign_here ns s k = token ns (sign_is s) k

-- a part among the same names
abbrev pub here : {r : Part} (ns : Names) (w : What) → (tree_of w → Form C r) → Form C r
here ns w k = part unchanged (at ns w) k

-- the same inside a bracket
abbrev pub inner : {r : Part} (ns : Names) (w : What) → (tree_of w → Form C r) → Form C r
inner ns w k = part inside (at ns w) k

-- the way of a token of the set, or the other
abbrev pub where_token : {r : Part} → Names → Set → (Token → Form C r) → Form C r → Form C r
where_token ns test k other = pick (on ns test) (token ns test k) other

-- the way of a bracket, or the other
abbrev pub where_open : {r : Part} → Names → Sign → (Token → Form C r) → Form C r → Form C r
where_open ns s k other = pick (on ns (sign_is s)) (opening ns s k) other

-- a part alone
abbrev pub just : {r : Part} (ns : Names) (w : What) → (tree_of w → tree_of r.what) → Form C r
just ns w f = here ns w (λ a. give (f a))

-- 2. Pieces of forms

-- the base of a type behind these `const`, and what follows it
abbrev pub base_behind : {r : Part} → Names → Bool → Bool → Word → (tree_of (AnyType false false) → tree_of r.what) → Form C r
base_behind ns anyhow object u f = token ns (is_base anyhow) (λ t. just ns (TypeRest u t (object && is_void t)) f)

-- suffixes behind a value, where it is no constant
abbrev pub suffixes_behind : {r : Part} → Names → Bool → Expr → (Expr → tree_of r.what) → Form C r
suffixes_behind ns true a f = give (f a)
suffixes_behind ns false a f = just ns (Suffixes (is_place a) false) (λ xs. f (suffixed a xs))

-- the same, where a place must come of it
abbrev pub place_behind : {r : Part} → Names → Expr → (Expr → tree_of r.what) → Form C r
place_behind ns a f = just ns (Suffixes (is_place a) (not (is_place a))) (λ xs. f (suffixed a xs))

-- a value and the bracket behind it, of which this is the one in front
abbrev pub bracket_end : {r : Part} → Names → Bool → Token → (Expr → Form C r) → Form C r
bracket_end ns constant t k = inner ns (Value constant) (λ a. sign_here ns sign.CloseParen (λ s. k (bracketed (join (words.at t) (words.at s)) a)))

-- what follows the operand, up to a level that is the loosest of chains inside one of this level
abbrev pub tail_behind : {r : Part} → Names → Option Level → Bool → Expr → (Expr → tree_of r.what) → Form C r
tail_behind ns None constant a f = give (f a)
tail_behind ns (Some m) constant a f = just ns (Upto m constant a) f

-- the same, before the links of a level
abbrev pub upto_behind : {r : Part} → Names → Option Level → Bool → Expr → (Expr → Form C r) → Form C r
upto_behind ns None constant a k = k a
upto_behind ns (Some m) constant a k = here ns (Upto m constant a) k

-- `[`, a value and `]`, and the suffixes behind it
abbrev pub index_behind : {dot must : Bool} → (ns : Names) → Form C (at ns (Suffixes dot must))
index_behind ns = opening ns sign.OpenBracket (λ t. inner ns (Value false) (λ i. sign_here ns sign.CloseBracket (λ s. just ns (Suffixes true false) (λ xs. index_suffix t i s ∷ xs))))

-- a cast behind `(`, and what it stands before
abbrev pub cast_behind : {r : Part} → Names → Bool → Token → (List PrefixOperator × Expr → Form C r) → Form C r
cast_behind ns c t k = inner ns (AnyType false true) (λ y. sign_here ns sign.CloseParen (λ s. here ns (Prefixed c) (λ r. k (one_prefix (cast_prefix t y s) r))))

-- a cast and what stands behind it, or an operand without an operator in front
abbrev pub cast_or_operand : (ns : Names) (c : Bool) → Form C (at ns (Prefixed c))
cast_or_operand ns c =
    where_open ns sign.OpenParen (λ t. pick (on ns (begins_type false)) (cast_behind ns c t (λ r. give r)) (bracket_end ns c t (λ a. suffixes_behind ns c a (λ b. ([], b)))))
    (here ns (Primary c) (λ a. suffixes_behind ns c a (λ b. ([], b))))

-- a declaration, behind its type
abbrev pub local_end : {r : Part} → Names → CType → (Local → Form C r) → Form C r
local_end ns c k = token ns (is Name) (λ n. sign_here ns sign.Semicolon (λ e. k (local c n)))

-- the statements behind one
abbrev pub statements_behind : (ns : Names) → Stmt → Form C (at ns Body)
statements_behind ns s = just ns Statements (λ ss. ([], s ∷ ss))

-- the declarations and statements behind a declaration
abbrev pub body_behind : (ns : Names) → Local → Form C (at ns Body)
body_behind ns l = part unchanged (at (with_local ns l) Body) (λ r. give (l ∷ r.0, r.1))

-- behind a name that a declaration or a statement begins with, by whether it can be a type
abbrev pub body_named : (ns : Names) → Token → Bool → Form C (at ns Body)
body_named ns t true = pick (on ns goes_on_local) (here ns (LocalRest t) (λ l. body_behind ns l)) (here ns (NamedStmt t) (λ s. statements_behind ns s))
body_named ns t false = here ns (NamedStmt t) (λ s. statements_behind ns s)

-- a call of a value, behind the callee
abbrev pub call_behind : {w : What} (ns : Names) → Option Expr → Expr → (Stmt → tree_of w) → Form C (at ns w)
call_behind ns o a f = opening ns sign.OpenParen (λ t. inner ns Arguments (λ xs. sign_here ns sign.CloseParen (λ s. sign_here ns sign.Semicolon (λ e. give (f (call_stmt o (value_call a xs s)))))))

-- a call of a function of the library, behind its name, which takes a type first or not
abbrev pub row_behind : {w : What} (ns : Names) → Option Expr → Token → Bool → (Stmt → tree_of w) → Form C (at ns w)
row_behind ns o n false f =
    opening ns sign.OpenParen (λ t. inner ns Arguments (λ xs. sign_here ns sign.CloseParen (λ s. sign_here ns sign.Semicolon (λ e. give (f (call_stmt o (row_call n None xs s)))))))
row_behind ns o n true f =
    opening ns sign.OpenParen (λ t. inner ns (AnyType true true) (λ c. inner ns MoreArguments (λ xs. sign_here ns sign.CloseParen (λ s. sign_here ns sign.Semicolon (λ e.
    give (f (call_stmt o (row_call n (Some c) xs s))))))))

-- `:` and `;` behind the name of a label
abbrev pub label_behind : (ns : Names) (t : Token) → Form C (at ns (NamedStmt t))
label_behind ns t = sign_here ns sign.Colon (λ c. sign_here ns sign.Semicolon (λ e. give (stmt.Label (name_at t))))

-- a label, or the other
abbrev pub label_or : (ns : Names) (t : Token) → Form C (at ns (NamedStmt t)) → Form C (at ns (NamedStmt t))
label_or ns t other = pick (on ns (sign_is sign.Colon)) (label_behind ns t) other

-- what follows a name that a statement begins with, by its role
abbrev pub named_behind : (ns : Names) (t : Token) → Role → Form C (at ns (NamedStmt t))
named_behind ns t (TypeName m) = label_behind ns t
named_behind ns t (RowName takes_type) = label_or ns t (row_behind ns None t takes_type (λ s. s))
named_behind ns t r = label_or ns t (just ns (ValueStmt (name_value ns t)) (λ s. s))

-- `=` and what is stored, where it is a place, or the brackets of a call
abbrev pub stored_behind : {w : What} (ns : Names) → Bool → Expr → (Stmt → tree_of w) → Form C (at ns w)
stored_behind ns true a f = where_token ns (sign_is sign.Assign) (λ t. just ns (Assigned a) f) (call_behind ns None a f)
stored_behind ns false a f = call_behind ns None a f

-- what follows the first operand of a value that is stored to this place
abbrev pub value_behind : {b : Expr} (ns : Names) → Expr → Form C (at ns (Assigned b))
value_behind {b} ns a = here ns (ChoosingTail false a) (λ r. sign_here ns sign.Semicolon (λ e. give (stmt.Assign b (conditional r.0 r.1))))

-- what follows a name that is stored or called, by its role
abbrev pub assigned_named : {b : Expr} (ns : Names) → Token → Role → Form C (at ns (Assigned b))
assigned_named {b} ns t (RowName takes_type) = row_behind ns (Some b) t takes_type (λ s. s)
assigned_named {b} ns t r = just ns (AssignedTail b (name_value ns t)) (λ s. s)

-- the brackets of a call, or the rest of a value that is stored to this place
abbrev pub called_or_value : (ns : Names) (b a : Expr) → List Suffix → Form C (at ns (AssignedTail b a))
called_or_value ns b a xs =
    pick (on ns (sign_is sign.OpenParen)) (call_behind ns (Some b) (suffixed a xs) (λ s. s))
    (here ns (ChoosingTail false (suffixed a xs)) (λ r. sign_here ns sign.Semicolon (λ e. give (stmt.Assign b (conditional r.0 r.1)))))

-- a value in brackets
abbrev pub value_inside : {r : Part} → Names → (Expr → Form C r) → Form C r
value_inside ns k = opening ns sign.OpenParen (λ t. inner ns (Value false) (λ a. sign_here ns sign.CloseParen (λ s. k a)))

-- a type behind these `const`, up to its stars
abbrev pub int_behind : (ns : Names) → Word → Form C (at ns IntType)
int_behind ns u = token ns is_int_base (λ t. just ns Consts (λ v. type_of u t v no_stars))

-- the same with two stars
abbrev pub texts_behind : (ns : Names) → Word → Form C (at ns TextsType)
texts_behind ns u = token ns is_char_base (λ t. here ns Consts (λ v. sign_here ns sign.Star (λ p. here ns Consts (λ x. sign_here ns sign.Star (λ q. just ns Consts (λ y. type_of u t v (two_stars p x q y)))))))

-- the name of a parameter, and the parameters behind it
abbrev pub parameters_behind : (ns : Names) → CType → Form C (at ns (ParametersOf false))
parameters_behind ns c = here ns (ParameterEnd c) (λ p. just ns MoreParameters (λ ps. p ∷ ps))

-- what follows `)` of a function, by whether all parameters have names
abbrev pub declared_end : {w : What} (ns : Names) → Bool → CSignature → (Item → tree_of w) → Form C (at ns w)
declared_end ns true s f = where_token ns (sign_is sign.Semicolon) (λ e. give (f (item.Prototype s)))
    (part unchanged (at (with_parameters (declared s.name FunctionName ∷ ns) s.parameters) BlockOf) (λ b. give (f (item.Function (record { signature = s; body = b })))))
declared_end ns false s f = sign_here ns sign.Semicolon (λ e. give (f (item.Prototype s)))

-- the value of a static variable
abbrev pub variable_behind : {w : What} (ns : Names) → CType → Token → (Item → tree_of w) → Form C (at ns w)
variable_behind ns c n f = here ns (Value true) (λ x. sign_here ns sign.Semicolon (λ e. give (f (item.Variable (record { declared = c; name = name_at n; value = x })))))

-- what follows the name of a static item, by whether its type is one that something can have and whether the name is `main`
abbrev pub static_named : (ns : Names) (t : Token) (c : CType) → Token → Bool → Bool → Form C (at ns (StaticEnd t c))
static_named ns t c n true false = where_token ns (sign_is sign.Assign) (λ a. variable_behind ns c n (λ i. i)) (just ns (DeclaredOf true c n t.start) (λ i. i))
static_named ns t c n true true = sign_here ns sign.Assign (λ a. variable_behind ns c n (λ i. i))
static_named ns t c n false main = just ns (DeclaredOf true c n t.start) (λ i. i)

-- the braces of a table
abbrev pub table_behind : {w : What} (ns : Names) → Token → (Item → tree_of w) → Form C (at ns w)
table_behind ns n f = opening ns sign.OpenBrace (λ l. inner ns TableInside (λ g. sign_here ns sign.CloseBrace (λ r. sign_here ns sign.Semicolon (λ e. give (f (item.InterfaceTable (record { name = name_at n; init = name_at g })))))))

-- what follows `=` behind `static const GInterfaceInfo` and a name
abbrev pub info_value : {w : What} (ns : Names) → CType → Token → (Item → tree_of w) → Form C (at ns w)
info_value ns c n f = pick (on ns (sign_is sign.OpenBrace)) (table_behind ns n f) (variable_behind ns c n f)

-- what follows the name, by the same as of a static item
abbrev pub info_named : (ns : Names) (t k i : Token) → Token → CType → Bool → Bool → Form C (at ns (InfoEnd t k i))
info_named ns t k i n c true false = where_token ns (sign_is sign.Assign) (λ a. info_value ns c n (λ i. i)) (just ns (DeclaredOf true c n t.start) (λ i. i))
info_named ns t k i n c true true = sign_here ns sign.Assign (λ a. info_value ns c n (λ i. i))
info_named ns t k i n c false main = just ns (DeclaredOf true c n t.start) (λ i. i)

-- what follows `static const GInterfaceInfo`, by whether that is the name of a type
abbrev pub info_behind : (ns : Names) (t k i : Token) → CType → Bool → Form C (at ns (InfoEnd t k i))
info_behind ns t k i c true =
    pick (on ns goes_on_type) (here ns (TypeMore (k ∷ []) i) (λ d. just ns (StaticEnd t d) (λ i. i))) (take unchanged 0 (is_free_name (is_object c)) (λ n. info_named ns t k i n c (is_object c) (is_main n.bytes)))
info_behind ns t k i c false = token ns (is Name) (λ n. sign_here ns sign.Assign (λ a. table_behind ns n (λ i. i)))

-- the type of a static item, from its base on
abbrev pub static_type : (ns : Names) (t : Token) → Word → Token → Form C (at ns (StaticRest t))
static_type ns t u b = here ns (TypeRest u b false) (λ c. just ns (StaticEnd t c) (λ i. i))

-- behind `static const` and a name
abbrev pub static_const : (ns : Names) (t k i : Token) → Bool → Form C (at ns (StaticRest t))
static_const ns t k i true = just ns (InfoEnd t k i) (λ i. i)
static_const ns t k i false = static_type ns t (k ∷ []) i

-- the type of an item, from its base on
abbrev pub typed_item : {line : Bool} (ns : Names) → Word → Token → Form C (at ns (ItemOf line))
typed_item ns u b = here ns (TypeRest u b false) (λ c. just ns (TypedEnd c) (λ i. i))

-- 3. Forms

-- the form of each part
unfoldable pub form : (ns : Names) (w : What) → Form C (at ns w)
form ns Consts = where_token ns (word_is keyword.Const) (λ t. just ns Consts (λ u. t ∷ u)) (give [])
form ns (Stars true) = sign_here ns sign.Star (λ t. here ns Consts (λ u. just ns (Stars false) (λ s. one_star t u s)))
form ns (Stars false) = where_token ns (sign_is sign.Star) (λ t. here ns Consts (λ u. just ns (Stars false) (λ s. one_star t u s))) (give no_stars)
form ns (TypeRest u t must) =
    where_token ns (word_is keyword.Const) (λ c. here ns Consts (λ v. just ns (Stars must) (λ s. type_of u t (c ∷ v) s))) (just ns (Stars must) (λ s. type_of u t [] s))
form ns (TypeMore u t) =
    where_token ns (word_is keyword.Const) (λ c. here ns Consts (λ v. just ns (Stars false) (λ s. type_of u t (c ∷ v) s))) (just ns (Stars true) (λ s. type_of u t [] s))
form ns (AnyType anyhow object) =
    where_token ns (word_is keyword.Const) (λ t. here ns Consts (λ u. base_behind ns anyhow object (t ∷ u) (λ c. c))) (base_behind ns anyhow object [] (λ c. c))
form ns (Value c) = just ns (Choosing c) (λ r. conditional r.0 r.1)
form ns (Choosing c) = here ns (Prefixed c) (λ o. just ns (ChoosingTail c (with_prefixes o)) (λ r. r))
form ns (ChoosingTail c a) = here ns (Upto level.Or c a) (λ t.
    where_open ns sign.Question (λ q. inner ns (Value c) (λ b. sign_here ns sign.Colon (λ s. just ns (Choosing c) (λ r. (choice t b ∷ r.0, r.1))))) (give ([], t)))
form ns (Upto l c a) = upto_behind ns (tighter l) c a (λ b. just ns (Links l c) (λ ls. chained b ls))
form ns (Links l c) = where_token ns (links l) (λ t. here ns (Operand l c) (λ b. just ns (Links l c) (λ ls. link (operator_in t.terminal) b ∷ ls))) (give [])
form ns (Operand l c) = here ns (Prefixed c) (λ o. tail_behind ns (tighter l) c (with_prefixes o) (λ a. a))
form ns (Prefixed true) = where_token ns (is_prefix true) (λ t. just ns (Prefixed true) (λ r. one_prefix (sign_prefix t) r)) (cast_or_operand ns true)
form ns (Prefixed false) =
    where_token ns (is_prefix false) (λ t. just ns (Prefixed false) (λ r. one_prefix (sign_prefix t) r))
    (where_token ns (sign_is sign.Ampersand) (λ t. just ns Place (λ r. one_prefix (sign_prefix t) r)) (cast_or_operand ns false))
form ns Place =
    where_token ns (sign_is sign.Star) (λ t. just ns (Prefixed false) (λ r. one_prefix (sign_prefix t) r))
    (where_open ns sign.OpenParen (λ t. bracket_end ns false t (λ a. place_behind ns a (λ b. ([], b))))
    (here ns (Primary false) (λ a. place_behind ns a (λ b. ([], b)))))
form ns (Primary c) = where_token ns (name_with (is_value_role c)) (λ t. give (name_value ns t)) (just ns Unnamed (λ a. a))
form ns Unnamed =
    where_token ns is_literal (λ t. give (literal t))
    (where_token ns (word_is keyword.Sizeof) (λ t. opening ns sign.OpenParen (λ r. inner ns (AnyType true true) (λ y. sign_here ns sign.CloseParen (λ s. give (size_of t y s)))))
    (token ns (word_is keyword.StructOffset) (λ t. opening ns sign.OpenParen (λ r. inner ns (AnyType true true) (λ y.
    token_inside ns (sign_is sign.Comma) (λ m. token_inside ns (is Name) (λ n. sign_here ns sign.CloseParen (λ s. give (offset t y n s)))))))))
form ns (Suffixes dot true) =
    where_token ns (is_field dot) (λ t. token ns (is Name) (λ n. just ns (Suffixes true false) (λ xs. field_suffix t.terminal (name_at n) ∷ xs))) (index_behind ns)
form ns (Suffixes dot false) =
    where_token ns (is_field dot) (λ t. token ns (is Name) (λ n. just ns (Suffixes true false) (λ xs. field_suffix t.terminal (name_at n) ∷ xs)))
    (pick (on ns (sign_is sign.OpenBracket)) (index_behind ns) (give []))
form ns Arguments = pick (on ns (begins_prefixed false)) (here ns (Value false) (λ a. just ns MoreArguments (λ xs. a ∷ xs))) (give [])
form ns MoreArguments = where_token ns (sign_is sign.Comma) (λ t. here ns (Value false) (λ a. just ns MoreArguments (λ xs. a ∷ xs))) (give [])
form ns KeyType =
    where_token ns (word_is keyword.Const) (λ t. here ns Consts (λ u. base_behind ns true true (t ∷ u) (λ c. c))) (token ns is_key_base (λ t. just ns (TypeRest [] t (is_void t)) (λ c. c)))
form ns LocalOf = here ns (AnyType true true) (λ c. local_end ns c (λ l. give l))
form ns (LocalRest t) = pick (on ns goes_on_type) (here ns (TypeMore [] t) (λ c. local_end ns c (λ l. give l))) (local_end ns (type_of [] t [] no_stars) (λ l. give l))
form ns SignedNumberOf = where_token ns (sign_is sign.Minus) (λ m. token ns (is Number) (λ t. give (signed true t))) (token ns (is Number) (λ t. give (signed false t)))
form ns GotoOf = token ns (word_is keyword.Goto) (λ t. token ns (is Name) (λ n. sign_here ns sign.Semicolon (λ e. give n)))
form ns Cases =
    where_token ns (word_is keyword.Case) (λ t. here ns SignedNumberOf (λ x. sign_here ns sign.Colon (λ c. here ns GotoOf (λ n. just ns Cases (λ r. (one_case x n ∷ r.0, r.1))))))
    (token ns (word_is keyword.Default) (λ d. sign_here ns sign.Colon (λ c. just ns GotoOf (λ n. ([], n)))))
form ns BlockOf = opening ns sign.OpenBrace (λ t. inner ns Body (λ r. sign_here ns sign.CloseBrace (λ s. give (block r.0 r.1 (join (words.at t) (words.at s))))))
form ns Body =
    pick (on ns begins_key_type) (here ns KeyType (λ c. local_end ns c (λ l. body_behind ns l)))
    (where_token ns (is Name) (λ t. body_named ns t (can_be_type true (role_of ns t.bytes)))
    (pick (on ns begins_plain) (here ns PlainStmt (λ s. statements_behind ns s)) (give ([], []))))
form ns Statements = pick (on ns begins_statement) (here ns Statement (λ s. just ns Statements (λ ss. s ∷ ss))) (give [])
form ns Statement = where_token ns (is Name) (λ t. just ns (NamedStmt t) (λ s. s)) (just ns PlainStmt (λ s. s))
form ns PlainStmt =
    where_token ns (sign_is sign.Star) (λ t. here ns (Prefixed false) (λ r. sign_here ns sign.Assign (λ e. just ns (Assigned (with_prefixes (one_prefix (sign_prefix t) r))) (λ s. s))))
    (where_open ns sign.OpenParen (λ t. bracket_end ns false t (λ a. just ns (ValueStmt a) (λ s. s)))
    (pick (on ns begins_unnamed) (here ns Unnamed (λ a. just ns (ValueStmt a) (λ s. s)))
    (pick (on ns (sign_is sign.OpenBrace)) (just ns BlockOf (λ b. stmt.Block b))
    (where_token ns (word_is keyword.If) (λ i. value_inside ns (λ a. pick (on ns (word_is keyword.Goto)) (just ns GotoOf (λ n. stmt.IfGoto a (name_at n))) (here ns BlockOf (λ b. just ns (ElseOf a b) (λ s. s)))))
    (pick (on ns (word_is keyword.Goto)) (just ns GotoOf (λ n. stmt.Goto (name_at n)))
    (where_token ns (word_is keyword.Switch) (λ i. value_inside ns (λ a. opening ns sign.OpenBrace (λ l. inner ns Cases (λ r. sign_here ns sign.CloseBrace (λ s. give (stmt.Switch a r.0 (name_at r.1)))))))
    (token ns (word_is keyword.Return) (λ t.
    where_token ns (sign_is sign.Semicolon) (λ e. give (stmt.Return (words.at t) None)) (here ns (Value false) (λ a. sign_here ns sign.Semicolon (λ e. give (stmt.Return (words.at t) (Some a)))))))))))))
form ns (NamedStmt t) = named_behind ns t (role_of ns t.bytes)
form ns (ValueStmt a) = here ns (Suffixes (is_place a) false) (λ xs. stored_behind ns (is_place (suffixed a xs)) (suffixed a xs) (λ s. s))
form ns (Assigned b) =
    where_token ns (name_with is_callee_role) (λ t. assigned_named ns t (role_of ns t.bytes))
    (where_token ns (is_prefix false) (λ t. here ns (Prefixed false) (λ r. value_behind ns (with_prefixes (one_prefix (sign_prefix t) r))))
    (where_token ns (sign_is sign.Ampersand) (λ t. here ns Place (λ r. value_behind ns (with_prefixes (one_prefix (sign_prefix t) r))))
    (where_open ns sign.OpenParen (λ t.
    pick (on ns (begins_type false)) (cast_behind ns false t (λ r. value_behind ns (with_prefixes r))) (bracket_end ns false t (λ a. just ns (AssignedTail b a) (λ s. s))))
    (here ns Unnamed (λ a. just ns (AssignedTail b a) (λ s. s))))))
form ns (AssignedTail b a) = here ns (Suffixes (is_place a) false) (λ xs. called_or_value ns b a xs)
form ns (ElseOf a b) = where_token ns (word_is keyword.Else) (λ l. just ns BlockOf (λ d. stmt.If a b (Some d))) (give (stmt.If a b None))
form ns MemberOf = token ns (is Name) (λ n. sign_here ns sign.Assign (λ e. just ns SignedNumberOf (λ x. record { name = name_at n; number = x })))
form ns Members = here ns MemberOf (λ m. just ns MoreMembers (λ ms. m ∷ ms))
form ns MoreMembers = where_token ns (sign_is sign.Comma) (λ t. here ns MemberOf (λ m. just ns MoreMembers (λ ms. m ∷ ms))) (give [])
form ns Fields = pick (on ns (begins_type true)) (here ns LocalOf (λ l. just ns Fields (λ ls. l ∷ ls))) (give [])
form ns ParameterOf = here ns (AnyType true true) (λ c. just ns (ParameterEnd c) (λ p. p))
form ns (ParameterEnd c) = where_token ns (is Name) (λ n. give (named_parameter c n)) (give (unnamed_parameter c))
form ns MoreParameters = where_token ns (sign_is sign.Comma) (λ t. here ns ParameterOf (λ p. just ns MoreParameters (λ ps. p ∷ ps))) (give [])
form ns (ParametersOf true) = here ns IntType (λ c. here ns (ParameterEnd c) (λ p. sign_here ns sign.Comma (λ m. here ns TextsType (λ d. just ns (ParameterEnd d) (λ q. p ∷ q ∷ [])))))
form ns (ParametersOf false) =
    where_token ns (word_is keyword.Void) (λ t. pick (on ns goes_on_type) (here ns (TypeRest [] t true) (λ c. parameters_behind ns c)) (give []))
    (where_token ns (word_is keyword.Const) (λ t. here ns Consts (λ u. token ns (is_base true) (λ b. here ns (TypeRest (t ∷ u) b (is_void b)) (λ c. parameters_behind ns c))))
    (token ns is_other_base (λ b. here ns (TypeRest [] b false) (λ c. parameters_behind ns c))))
form ns IntType = where_token ns (word_is keyword.Const) (λ t. here ns Consts (λ u. int_behind ns (t ∷ u))) (int_behind ns [])
form ns TextsType = where_token ns (word_is keyword.Const) (λ t. here ns Consts (λ u. texts_behind ns (t ∷ u))) (texts_behind ns [])
form ns TableInside = opening ns sign.OpenParen (λ p. take inside 0 (is_name_of (codes "GInterfaceInitFunc")) (λ y. sign_here ns sign.CloseParen (λ q. token ns (is Name) (λ f.
    sign_here ns sign.Comma (λ d. token ns (is Null) (λ x. sign_here ns sign.Comma (λ m. token ns (is Null) (λ z. give f))))))))
form ns (DeclaredOf b c n from) = opening ns sign.OpenParen (λ o. inner ns (ParametersOf (is_main n.bytes)) (λ ps. sign_here ns sign.CloseParen (λ s.
    declared_end ns (list_all has_name ps) (signature b c n ps from s) (λ i. i))))
form ns (TypedEnd c) = take unchanged 0 (is_free_name (is_int ns c)) (λ n. just ns (DeclaredOf false c n c.span.start) (λ i. i))
form ns (StaticEnd t c) = take unchanged 0 (is_free_name (is_object c)) (λ n. static_named ns t c n (is_object c) (is_main n.bytes))
form ns (InfoEnd t k i) = info_behind ns t k i (type_of (k ∷ []) i [] no_stars) (can_be_type true (role_of ns i.bytes))
form ns (StaticRest t) =
    where_token ns (word_is keyword.Const) (λ k.
    pick (is_info_or_type ns) (take unchanged 0 (is_info_or_type ns) (λ i. static_const ns t k i (bytes_eq i.bytes (codes "GInterfaceInfo"))))
    (where_token ns (word_is keyword.Const) (λ x. here ns Consts (λ u. token ns (is_base true) (λ b. static_type ns t (k ∷ x ∷ u) b)))
    (token ns is_key_base (λ b. static_type ns t (k ∷ []) b))))
    (token ns (is_base true) (λ b. static_type ns t [] b))
form ns (TypedefRest t) =
    where_token ns (word_is keyword.Struct) (λ s. take unchanged 0 is_tag (λ g. take unchanged 0 (is_name_of (behind_first g.bytes)) (λ n. sign_here ns sign.Semicolon (λ e. give (item.StructType (name_at n))))))
    (where_token ns (word_is keyword.Enum) (λ s. opening ns sign.OpenBrace (λ l. inner ns Members (λ ms. sign_here ns sign.CloseBrace (λ r. token ns (is Name) (λ n. sign_here ns sign.Semicolon (λ e.
    give (item.Enumeration (record { members = ms; name = name_at n }))))))))
    (here ns (AnyType true false) (λ r. opening ns sign.OpenParen (λ o. token_inside ns (sign_is sign.Star) (λ s. token_inside ns (is Name) (λ n. sign_here ns sign.CloseParen (λ c. opening ns sign.OpenParen (λ p.
    inner ns (ParametersOf false) (λ ps. sign_here ns sign.CloseParen (λ q. sign_here ns sign.Semicolon (λ e. give (item.FunctionType (signature false r n ps t.start q)))))))))))))
form ns (ItemOf line) =
    where_token ns begins_include (λ t. take unchanged 0 is_include_word (λ i. token ns (is File) (λ h. give (item.Include (file_in h.terminal)))))
    (where_token ns (on_line line (word_is keyword.Typedef)) (λ t. just ns (TypedefRest t) (λ i. i))
    (where_token ns (on_line line (word_is keyword.Struct)) (λ s. take unchanged 0 is_tag (λ g. opening ns sign.OpenBrace (λ l. inner ns Fields (λ fs. sign_here ns sign.CloseBrace (λ r. sign_here ns sign.Semicolon (λ e.
    give (item.Struct (record { name = struct_name g; fields = fs }))))))))
    (where_token ns (on_line line (word_is keyword.Static)) (λ t. just ns (StaticRest t) (λ i. i))
    (where_token ns (on_line line (word_is keyword.Const)) (λ t. here ns Consts (λ u. token ns (is_base true) (λ b. typed_item ns (t ∷ u) b)))
    (token ns (on_line line (is_base true)) (λ b. typed_item ns [] b))))))
form ns (ItemsOf line) = pick (on ns (begins_item line)) (here ns (ItemOf line) (λ i. part unchanged (at (with_item ns i) (ItemsOf (is_include i))) (λ is. give (i ∷ is)))) (give [])

-- the form of each part
abbrev pub forms : Productions C
forms p = form p.names p.what
