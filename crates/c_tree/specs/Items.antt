-- The grammar of a unit, one case for each production.
use Rattle.std.specs.Prelude.{◌≡◌, ℕ, ◌||◌, not, Bool, true, false, is_some, List, [], ◌∷◌, ◌++◌, codes, Some, None}
use Rattle.std.specs.List.{list_all}
use Rattle.c_lexer.specs.declared.token.Constant.TheVariants as constant
use Rattle.c_lexer.specs.declared.token.TokenKind.TheVariants as k
use Rattle.c_lexer.specs.declared.token.Keyword.TheVariants as keyword
use Rattle.c_lexer.specs.declared.token.Sign.TheVariants as sign
use Rattle.c_tree.specs.declared.names.CType.{CType}
use Rattle.c_tree.specs.declared.names.SignedNumber.{SignedNumber}
use Rattle.c_tree.specs.declared.code.Expr.{Expr}
use Rattle.c_tree.specs.declared.code.Local.{Local}
use Rattle.c_tree.specs.declared.code.Block.{Block}
use Rattle.c_tree.specs.declared.unit.Include.{Include}
use Rattle.c_tree.specs.declared.unit.Item.{Item}
use Rattle.c_tree.specs.declared.unit.Item.TheVariants as item
use Rattle.c_tree.specs.declared.unit.Member.{Member}
use Rattle.c_tree.specs.declared.unit.Parameter.{Parameter}
use Rattle.c_tree.specs.declared.unit.Signature.{Signature}
use Rattle.c_tree.specs.declared.unit.Unit.{Unit as CUnit}
use Rattle.c_tree.specs.Words.{Of, Header, Token, Word, IsSign, IsWord, IsName, IsNamed, at, extent, BeginsLine, is_shallow}
use Rattle.c_tree.specs.Names.{Names, with_parameters, with_item, main_fits, library_names, declared, FunctionName}
use Rattle.c_tree.specs.Types.{ReadsType, is_object}
use Rattle.c_tree.specs.Make.{name_at}
use Rattle.c_tree.specs.Values as v
use Rattle.c_tree.specs.Values.{Value}
use Rattle.c_tree.specs.Statements.{ReadsLocal, ReadsNumber, ReadsBlock}

-- A member `A = n`, and those behind it.
pub data ReadsMember : Word → Member → Type 0 where
  member_is : {n e : Token} {w : Word} {x : SignedNumber} → IsName n → IsSign e sign.Assign → ReadsNumber w x → ReadsMember (n ∷ e ∷ w) (record { name = name_at n; number = x })

-- the members behind the first
pub data ReadsMoreMembers : Word → List Member → Type 0 where
  no_member : ReadsMoreMembers [] []
  more_members : {t : Token} {u w : Word} {m : Member} {ms : List Member} → IsSign t sign.Comma → ReadsMember u m → ReadsMoreMembers w ms → ReadsMoreMembers (t ∷ u ++ w) (m ∷ ms)

-- any number of fields
pub data ReadsFields (ns : Names) : Word → List Local → Type 0 where
  no_field : ReadsFields ns [] []
  more_fields : {u w : Word} {l : Local} {ls : List Local} → ReadsLocal ns u l → ReadsFields ns w ls → ReadsFields ns (u ++ w) (l ∷ ls)

-- a parameter, with or without a name, and those behind it
pub data ReadsParameter (ns : Names) : Word → Parameter → Type 0 where
  unnamed : {w : Word} {c : CType} → ReadsType ns true w c → is_object c ≡ true → ReadsParameter ns w (record { declared = c; name = None })
  named : (n : Token) → {w : Word} {c : CType} → ReadsType ns true w c → is_object c ≡ true → IsName n → ReadsParameter ns (w ++ n ∷ []) (record { declared = c; name = Some (name_at n) })

-- the parameters behind the first
pub data ReadsMoreParameters (ns : Names) : Word → List Parameter → Type 0 where
  no_parameter : ReadsMoreParameters ns [] []
  more_parameters : {t : Token} {u w : Word} {p : Parameter} {ps : List Parameter} → IsSign t sign.Comma → ReadsParameter ns u p → ReadsMoreParameters ns w ps → ReadsMoreParameters ns (t ∷ u ++ w) (p ∷ ps)

-- `(void)`, or one parameter or more
pub data ReadsParameters (ns : Names) : Word → List Parameter → Type 0 where
  none_taken : {t x s : Token} → IsSign t sign.OpenParen → IsWord x keyword.Void → IsSign s sign.CloseParen → ReadsParameters ns (t ∷ x ∷ s ∷ []) []
  some_taken : {t : Token} (s : Token) → {u w : Word} {p : Parameter} {ps : List Parameter} → IsSign t sign.OpenParen → ReadsParameter ns u p → ReadsMoreParameters ns w ps → IsSign s sign.CloseParen
      → ReadsParameters ns (t ∷ u ++ w ++ s ∷ []) (p ∷ ps)

-- `static`, or nothing
pub data ReadsStatic : Word → Bool → Type 0 where
  not_static : ReadsStatic [] false
  is_static : {t : Token} → IsWord t keyword.Static → ReadsStatic (t ∷ []) true

-- what a function takes and gives; `main` is `int main (int argc, char **argv)`
pub data ReadsSignature (ns : Names) : Word → Signature → Type 0 where
  signature_is : (n : Token) → {u v w : Word} {b : Bool} {c : CType} {ps : List Parameter} → ReadsStatic u b → ReadsType ns true v c → IsName n → ReadsParameters ns w ps
      → main_fits ns (record { is_static = b; result = c; name = name_at n; parameters = ps; span = extent (u ++ v ++ n ∷ w) }) ≡ true
      → ReadsSignature ns (u ++ v ++ n ∷ w) (record { is_static = b; result = c; name = name_at n; parameters = ps; span = extent (u ++ v ++ n ∷ w) })

-- whether a parameter has a name
abbrev pub has_name : Parameter → Bool
has_name p = is_some p.name

-- the tag of the struct `X` is `_X`
abbrev pub IsTag : Token → List ℕ → Type 0
IsTag t x = IsName t × (t.bytes ≡ 95 ∷ x)

-- the constant `NULL`
abbrev pub IsNull : Token → Type 0
IsNull t = t.terminal ≡ Of (k.Constant constant.Null)

-- an item, among the names that are in scope in front of it
pub data ReadsItem (ns : Names) : Word → Item → Type 0 where
  includes : {t i h : Token} {f : Include} → IsSign t sign.Hash → t.begins_line ≡ true → IsNamed i (codes "include") → i.begins_line ≡ false → h.terminal ≡ Header f → ReadsItem ns (t ∷ i ∷ h ∷ []) (item.Include f)
  struct_type : {t s g n e : Token} → IsWord t keyword.Typedef → IsWord s keyword.Struct → IsTag g n.bytes → IsName n → IsSign e sign.Semicolon → ReadsItem ns (t ∷ s ∷ g ∷ n ∷ e ∷ []) (item.StructType (name_at n))
  struct_is : {s g l : Token} (r e : Token) → {x : List ℕ} {w : Word} {fs : List Local} → IsWord s keyword.Struct → IsTag g x → IsSign l sign.OpenBrace → ReadsFields ns w fs → IsSign r sign.CloseBrace → IsSign e sign.Semicolon
      → ReadsItem ns (s ∷ g ∷ l ∷ w ++ r ∷ e ∷ []) (item.Struct (record { name = record { text = x; span = at g }; fields = fs }))
  enum_is : {t s l : Token} (r n e : Token) → {u w : Word} {m : Member} {ms : List Member} → IsWord t keyword.Typedef → IsWord s keyword.Enum → IsSign l sign.OpenBrace → ReadsMember u m → ReadsMoreMembers w ms
      → IsSign r sign.CloseBrace → IsName n → IsSign e sign.Semicolon → ReadsItem ns (t ∷ s ∷ l ∷ u ++ w ++ r ∷ n ∷ e ∷ []) (item.Enumeration (record { members = m ∷ ms; name = name_at n }))
  function_type : {t : Token} (o s n c e : Token) → {u w : Word} {r : CType} {ps : List Parameter} → IsWord t keyword.Typedef → ReadsType ns true u r → IsSign o sign.OpenParen → IsSign s sign.Star → IsName n → IsSign c sign.CloseParen
      → ReadsParameters ns w ps → IsSign e sign.Semicolon
      → ReadsItem ns (t ∷ u ++ o ∷ s ∷ n ∷ c ∷ w ++ e ∷ []) (item.FunctionType (record { is_static = false; result = r; name = name_at n; parameters = ps; span = extent (t ∷ u ++ o ∷ s ∷ n ∷ c ∷ w) }))
  prototype : (e : Token) → {w : Word} {s : Signature} → ReadsSignature ns w s → IsSign e sign.Semicolon → ReadsItem ns (w ++ e ∷ []) (item.Prototype s)
  static_variable : {t : Token} (n a e : Token) → {u w : Word} {c : CType} {x : Expr} → IsWord t keyword.Static → ReadsType ns true u c → is_object c ≡ true → IsName n → IsSign a sign.Assign → v.Reads ns true Value w x → IsSign e sign.Semicolon
      → ReadsItem ns (t ∷ u ++ n ∷ a ∷ w ++ e ∷ []) (item.Variable (record { declared = c; name = name_at n; value = x }))
  interface_table : {t c i n a l p y q f d x m z r e : Token} → IsWord t keyword.Static → IsWord c keyword.Const → IsNamed i (codes "GInterfaceInfo") → IsName n → IsSign a sign.Assign → IsSign l sign.OpenBrace
      → IsSign p sign.OpenParen → IsNamed y (codes "GInterfaceInitFunc") → IsSign q sign.CloseParen → IsName f → IsSign d sign.Comma → IsNull x → IsSign m sign.Comma → IsNull z → IsSign r sign.CloseBrace → IsSign e sign.Semicolon
      → ReadsItem ns (t ∷ c ∷ i ∷ n ∷ a ∷ l ∷ p ∷ y ∷ q ∷ f ∷ d ∷ x ∷ m ∷ z ∷ r ∷ e ∷ []) (item.InterfaceTable (record { name = name_at n; init = name_at f }))
  function_is : {u w : Word} {s : Signature} {b : Block} → ReadsSignature ns u s → list_all has_name s.parameters ≡ true → ReadsBlock (with_parameters (declared s.name FunctionName ∷ ns) s.parameters) w b
      → ReadsItem ns (u ++ w) (item.Function (record { signature = s; body = b }))

-- whether an item is an include line
abbrev pub is_include : Item → Bool
is_include (item.Include f) = true
is_include i = false

-- nothing stands behind an included file on its line
abbrev pub ends_line : Item → Word → Bool
ends_line i w = not (is_include i) || BeginsLine w

-- items, each in the scope of those before it
pub data ReadsItems : Names → Word → List Item → Type 0 where
  no_item : {ns : Names} → ReadsItems ns [] []
  more_items : {ns : Names} {u w : Word} {i : Item} {is : List Item} → ReadsItem ns u i → ends_line i w ≡ true → ReadsItems (with_item ns i) w is → ReadsItems ns (u ++ w) (i ∷ is)

-- A WHOLE TEXT, by its tokens: the items of the unit, with no more than 64 brackets open anywhere.
pub record ReadsUnit (w : Word) (unit : CUnit) : Type 0 where
  pub items : ReadsItems library_names w unit.items
  pub shallow : is_shallow [] w ≡ true
