-- What the relations of c_tree say of the texts of each part.
use Rattle.std.proofs.Common.{◌≡◌, ◌==◌, not, ◌||◌, Bool, true, false, List, [], ◌∷◌, ◌++◌, codes, ◌&&◌}
use Rattle.c_tree.specs.declared.operators.Level.TheVariants as level
use Rattle.c_tree.specs.declared.names.CType.{CType}
use Rattle.c_tree.specs.declared.code.Suffix.{Suffix, out-Suffix}
use Rattle.c_lexer.specs.declared.token.Keyword.TheVariants as keyword
use Rattle.c_lexer.specs.declared.token.Sign.TheVariants as sign
use Rattle.c_tree.specs.declared.code.Local.{Local}
use Rattle.c_tree.specs.declared.code.Case.{Case}
use Rattle.c_tree.specs.declared.code.Stmt.{Stmt}
use Rattle.c_tree.specs.Statements.{ReadsLocal, ReadsLocals, ReadsNumber, ReadsGoto, ReadsCases, ReadsPlace, ReadsStmt, ReadsStmts, ReadsBlock}
use Rattle.c_tree.specs.Words.{Token, Word, IsSign, IsWord, IsName, IsNamed, BeginsLine, start_of}
use Rattle.c_tree.specs.Names.{Names, role_of, with_locals, is_int, is_texts, are_arguments, not_static}
use Rattle.c_tree.specs.declared.unit.Member.{Member}
use Rattle.c_tree.specs.declared.unit.Parameter.{Parameter}
use Rattle.c_tree.specs.declared.unit.Item.TheVariants as item
use Rattle.c_tree.specs.Make.{name_at}
use Rattle.c_tree.specs.Items.{ReadsMember, ReadsMoreMembers, ReadsFields, ReadsParameter, ReadsMoreParameters, ReadsParameters, ReadsStatic, ReadsItem, ReadsItems}
use Rattle.c_tree.specs.Types.{can_be_type, Consts as ReadsConsts, Stars as ReadsStars, BaseIs, ReadsType, is_object}
use Rattle.c_tree.specs.Values as v
use Rattle.c_tree.specs.Values.{is_dot_layer, is_place}
use Rattle.c_grammar.specs.Tests.{is_main}
use Rattle.c_grammar.specs.Trees.{is_some_word, base_of, with_prefixes}
use Rattle.c_grammar.specs.Parts.{What, Starred, tree_of, at, Consts, Stars, TypeRest, TypeMore, AnyType, Value, Choosing, ChoosingTail, Upto, Links, Operand, Prefixed, Place, Primary, Unnamed, Suffixes, Arguments, MoreArguments, KeyType, LocalOf, LocalRest, SignedNumberOf, GotoOf, Cases, BlockOf, Body, Statements, Statement, PlainStmt, NamedStmt, ValueStmt, Assigned, AssignedTail, ElseOf, MemberOf, Members, MoreMembers, Fields, ParameterOf, ParameterEnd, MoreParameters, ParametersOf, IntType, TextsType, TableInside, DeclaredOf, TypedEnd, StaticEnd, InfoEnd, StaticRest, TypedefRest, ItemOf, ItemsOf}
use Rattle.c_grammar.specs.Grammar.{form}
use Rattle.c_grammar.proofs.Told.{Meanings, Told}

-- where there must be one, there is
abbrev pub IfMust : Bool → Bool → Type 0
IfMust must there = must ≡ true → there ≡ true

-- whether there are some
abbrev pub is_some : {A : Type 0} → List A → Bool
is_some [] = false
is_some (x ∷ xs) = true

-- whether suffixes may stand behind a value that is a place or not
abbrev pub starts_well : Bool → List Suffix → Bool
starts_well dot [] = true
starts_well dot (x ∷ xs) = not (is_dot_layer (out-Suffix x)) || dot

-- any number of `const`: these
pub record AreConsts (w : Word) (x : Word) : Type 0 where
  pub reads : ReadsConsts w (is_some_word x)
  pub same : x ≡ w

-- any number of `*`: these
pub record AreStars (must : Bool) (w : Word) (x : Starred) : Type 0 where
  pub reads : ReadsStars w x.stars
  pub same : x.word ≡ w
  pub some : IfMust must (not (x.stars == 0))

-- a type, from its base on
pub record EndsType (u : Word) (t : Token) (must : Bool) (w : Word) (c : CType) : Type 0 where
  pub reads : (ns : Names) (anyhow : Bool) → ReadsConsts u (is_some_word u) → BaseIs ns anyhow t (base_of t) → ReadsType ns anyhow (u ++ t ∷ w) c
  pub base : c.base ≡ base_of t
  pub some : IfMust must (not (c.stars == 0))

-- a type, and one that something can have where it must be
pub record IsType (ns : Names) (anyhow object : Bool) (w : Word) (c : CType) : Type 0 where
  pub reads : ReadsType ns anyhow w c
  pub fits : IfMust object (is_object c)

-- suffixes
pub record AreSuffixes (ns : Names) (dot must : Bool) (w : Word) (xs : List Suffix) : Type 0 where
  pub reads : v.Reads ns false v.Suffixes w xs
  pub starts : starts_well dot xs ≡ true
  pub some : IfMust must (is_some xs)

-- the cases of a `switch` and its `default`
pub record AreCases (w : Word) (x : List Case × Token) : Type 0 where
  pub front : Word
  pub last : Token
  pub colon : Token
  pub behind : Word
  pub same : w ≡ front ++ (last ∷ colon ∷ behind)
  pub cases : ReadsCases front x.0
  pub is_default : IsWord last keyword.Default
  pub is_colon : IsSign colon sign.Colon
  pub goes : ReadsGoto behind x.1

-- declarations, and then statements in their scope
pub record IsBody (ns : Names) (w : Word) (x : List Local × List Stmt) : Type 0 where
  pub front : Word
  pub behind : Word
  pub same : w ≡ front ++ behind
  pub locals : ReadsLocals ns front x.0
  pub statements : ReadsStmts (with_locals ns x.0) behind x.1

-- the members of an enum
pub record AreMembers (w : Word) (x : List Member) : Type 0 where
  pub front : Word
  pub behind : Word
  pub member : Member
  pub others : List Member
  pub same : w ≡ front ++ behind
  pub tree : x ≡ member ∷ others
  pub first : ReadsMember front member
  pub more : ReadsMoreMembers behind others

-- a parameter, from behind its type
pub record EndsParameter (ns : Names) (c : CType) (w : Word) (p : Parameter) : Type 0 where
  pub reads : (u : Word) → ReadsType ns true u c → is_object c ≡ true → ReadsParameter ns (u ++ w) p
  pub same : p.declared ≡ c

-- parameters, between brackets
pub record AreParameters (ns : Names) (main : Bool) (w : Word) (ps : List Parameter) : Type 0 where
  pub reads : (t s : Token) → IsSign t sign.OpenParen → IsSign s sign.CloseParen → ReadsParameters ns (t ∷ (w ++ (s ∷ []))) ps
  pub fits : IfMust main (are_arguments ns ps)

-- a type that means `int`, and one that means `char **`
pub record MeansInt (ns : Names) (w : Word) (c : CType) : Type 0 where
  pub reads : ReadsType ns true w c
  pub object : is_object c ≡ true
  pub means : is_int ns c ≡ true

-- the same of `char **`
pub record MeansTexts (ns : Names) (w : Word) (c : CType) : Type 0 where
  pub reads : ReadsType ns true w c
  pub object : is_object c ≡ true
  pub means : is_texts ns c ≡ true

abbrev pub Means : Names → (p : What) → Word → tree_of p → Type 0
Means ns Consts w x = AreConsts w x
Means ns (Stars must) w x = AreStars must w x
Means ns (TypeRest u t must) w x = EndsType u t must w x
Means ns (TypeMore u t) w x = EndsType u t false w x
Means ns (AnyType anyhow object) w x = IsType ns anyhow object w x
Means ns (Value k) w x = v.Reads ns k v.Value w x
Means ns (Choosing k) w x = v.Reads ns k v.Choosing w x
Means ns (ChoosingTail k a) w x = (u : Word) → v.Reads ns k (v.Operand level.Product) u a → v.Reads ns k v.Choosing (u ++ w) x
Means ns (Upto l k a) w x = (u : Word) → v.Reads ns k (v.Operand level.Product) u a → v.Reads ns k (v.Chained l) (u ++ w) x
Means ns (Links l k) w x = v.Reads ns k (v.Links l) w x
Means ns (Operand l k) w x = v.Reads ns k (v.Operand l) w x
Means ns (Prefixed k) w x = v.Reads ns k v.Prefixed w x
Means ns Place w x = v.Reads ns false v.Prefixed w x × (is_place (with_prefixes x) ≡ true)
Means ns (Primary k) w x = v.Reads ns k v.Primary w x
Means ns Unnamed w x = (k : Bool) → v.Reads ns k v.Primary w x
Means ns (Suffixes dot must) w x = AreSuffixes ns dot must w x
Means ns Arguments w x = v.Reads ns false v.Arguments w x
Means ns MoreArguments w x = v.Reads ns false v.MoreArguments w x
Means ns KeyType w x = IsType ns true true w x
Means ns LocalOf w x = ReadsLocal ns w x
Means ns (LocalRest t) w x = IsName t → can_be_type true (role_of ns t.bytes) ≡ true → ReadsLocal ns (t ∷ w) x
Means ns SignedNumberOf w x = ReadsNumber w x
Means ns GotoOf w x = ReadsGoto w x
Means ns Cases w x = AreCases w x
Means ns BlockOf w x = ReadsBlock ns w x
Means ns Body w x = IsBody ns w x
Means ns Statements w x = ReadsStmts ns w x
Means ns Statement w x = ReadsStmt ns w x
Means ns PlainStmt w x = ReadsStmt ns w x
Means ns (NamedStmt t) w x = IsName t → ReadsStmt ns (t ∷ w) x
Means ns (ValueStmt a) w x = (u : Word) → v.Reads ns false v.Primary u a → ReadsStmt ns (u ++ w) x
Means ns (Assigned b) w x = (u : Word) (t : Token) → ReadsPlace ns u b → IsSign t sign.Assign → ReadsStmt ns (u ++ (t ∷ w)) x
Means ns (AssignedTail b a) w x = (u : Word) (t : Token) (p : Word) → ReadsPlace ns u b → IsSign t sign.Assign → v.Reads ns false v.Primary p a → ReadsStmt ns (u ++ (t ∷ (p ++ w))) x
Means ns (ElseOf a b) w x = (i t s : Token) (u p : Word) → IsWord i keyword.If → IsSign t sign.OpenParen → v.Reads ns false v.Value u a → IsSign s sign.CloseParen → ReadsBlock ns p b
    → ReadsStmt ns (i ∷ t ∷ (u ++ (s ∷ (p ++ w)))) x
Means ns MemberOf w x = ReadsMember w x
Means ns Members w x = AreMembers w x
Means ns MoreMembers w x = ReadsMoreMembers w x
Means ns Fields w x = ReadsFields ns w x
Means ns ParameterOf w x = ReadsParameter ns w x
Means ns (ParameterEnd c) w x = EndsParameter ns c w x
Means ns MoreParameters w x = ReadsMoreParameters ns w x
Means ns (ParametersOf main) w x = AreParameters ns main w x
Means ns IntType w x = MeansInt ns w x
Means ns TextsType w x = MeansTexts ns w x
Means ns TableInside w x = (t c i n a l r e : Token) → IsWord t keyword.Static → IsWord c keyword.Const → IsNamed i (codes "GInterfaceInfo") → IsName n → IsSign a sign.Assign → IsSign l sign.OpenBrace → IsSign r sign.CloseBrace
    → IsSign e sign.Semicolon → ReadsItem ns (t ∷ c ∷ i ∷ n ∷ a ∷ l ∷ (w ++ (r ∷ e ∷ []))) (item.InterfaceTable (record { name = name_at n; init = name_at x }))
Means ns (DeclaredOf b c n from) w x = (u p : Word) → ReadsStatic u b → ReadsType ns true p c → IsName n → IfMust (is_main n.bytes) (not_static b && is_int ns c) → ((z : Word) → start_of 0 ((u ++ p) ++ (n ∷ z)) ≡ from)
    → ReadsItem ns ((u ++ p) ++ (n ∷ w)) x
Means ns (TypedEnd c) w x = (p : Word) → ReadsType ns true p c → ReadsItem ns (p ++ w) x
Means ns (StaticEnd t c) w x = (p : Word) → IsWord t keyword.Static → ReadsType ns true p c → ReadsItem ns (t ∷ (p ++ w)) x
Means ns (InfoEnd t k i) w x = IsWord t keyword.Static → IsWord k keyword.Const → IsNamed i (codes "GInterfaceInfo") → ReadsItem ns (t ∷ k ∷ i ∷ w) x
Means ns (StaticRest t) w x = IsWord t keyword.Static → ReadsItem ns (t ∷ w) x
Means ns (TypedefRest t) w x = IsWord t keyword.Typedef → ReadsItem ns (t ∷ w) x
Means ns (ItemOf line) w x = ReadsItem ns w x × IfMust line (BeginsLine w)
Means ns (ItemsOf line) w x = ReadsItems ns w x × IfMust line (BeginsLine w)

-- the same of parts
abbrev pub Meant : Meanings
Meant p w x = Means p.names p.what w x

-- what is said of a part follows from its form
abbrev pub Holds : Names → What → Type 0
Holds ns p = (w : Word) (x : tree_of p) → Told Meant (at ns p) (form ns p) w x → Means ns p w x
