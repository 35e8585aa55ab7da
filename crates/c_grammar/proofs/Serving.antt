-- What is made up serves each form.
use Rattle.std.proofs.Common.{◌≡◌, ℕ, Bool, true, false, if◌then◌else◌, List, [], ◌∷◌, Option, Some, None, codes, refl}
use Rattle.predictive_grammar.specs.Forms.{Form, give, part}
use Rattle.mending_readers.specs.Mending.{first_that, Serves, serves_give, serves_take, serves_part, serves_pick, serves_where}
use Rattle.std.specs.List.{list_all}
use Rattle.std.specs.Str.{bytes_eq}
use Rattle.c_tree.specs.declared.operators.Level.{Level}
use Rattle.c_tree.specs.declared.code.Expr.{Expr}
use Rattle.c_tree.specs.declared.code.Stmt.{Stmt}
use Rattle.c_tree.specs.declared.names.CType.{CType}
use Rattle.c_tree.specs.declared.unit.Signature.{Signature as CSignature}
use Rattle.c_tree.specs.declared.unit.Item.{Item}
use Rattle.c_tree.specs.Words.{Token, Word}
use Rattle.c_tree.specs.Names.{Names, Role, TypeName, RowName, role_of}
use Rattle.c_tree.specs.Types.{is_object, can_be_type}
use Rattle.c_tree.specs.Items.{has_name}
use Rattle.c_tree.specs.Values.{is_place, tighter}
use Rattle.c_tree.specs.Make.{suffixed}
use Rattle.c_grammar.specs.Sorts.{Kind, kind}
use Rattle.c_grammar.specs.Tests.{is_main, is_name_of}
use Rattle.c_grammar.specs.Trees.{type_of, no_stars, behind_first}
use Rattle.c_grammar.specs.Parts.{What, Part, tree_of, at, Consts, Stars, TypeRest, TypeMore, AnyType, Value, Choosing, ChoosingTail, Upto, Links, Operand, Prefixed, Place, Primary, Unnamed, Suffixes, Arguments, MoreArguments, KeyType, LocalOf, LocalRest, SignedNumberOf, GotoOf, Cases, BlockOf, Body, Statements, Statement, PlainStmt, NamedStmt, ValueStmt, Assigned, AssignedTail, ElseOf, MemberOf, Members, MoreMembers, Fields, ParameterOf, ParameterEnd, MoreParameters, ParametersOf, IntType, TextsType, TableInside, DeclaredOf, TypedEnd, StaticEnd, InfoEnd, StaticRest, TypedefRest, ItemOf, ItemsOf}
use Rattle.c_grammar.specs.Grammar.{C, form, suffixes_behind, cast_or_operand, index_behind, upto_behind, tail_behind, body_named, label_behind, row_behind, named_behind, call_behind, stored_behind, value_behind, assigned_named, declared_end, variable_behind, static_named, table_behind, info_named, info_behind, static_type, static_const, typed_item, texts_behind}
use Rattle.c_grammar.specs.Mending.{made_up, made_name, behind_stop}
use Rattle.c_grammar.proofs.Bytes.{equal_bytes}

-- where the last resort can stand, the first that can does
first_passes : (test : Kind → Bool) (ts : List Token) (x : Token) → test (kind x) ≡ true → test (kind (first_that kind test ts x)) ≡ true
first_passes test [] x e = e
first_passes test (t ∷ ts) x e = go (test (kind t)) refl (first_passes test ts x e)
  where
    go : (b : Bool) → test (kind t) ≡ b → test (kind (first_that kind test ts x)) ≡ true → test (kind (if b then t else first_that kind test ts x)) ≡ true
    go true i f = i
    go false i f = f

module _ («end» : ℕ) (ns : Names) where
  abbrev Served : (w : What) → Word → Form C (at ns w) → Type 0
  Served w before form = Serves C (made_up «end») (at ns w) before form

  alone : {r q : Part} {before : Word} {up : ℕ → ℕ} {f : tree_of q.what → tree_of r.what} → Serves C (made_up «end») r before (part up q (λ a. give (f a)))
  alone = serves_part (λ a. serves_give)

  upto : {w : What} {before : Word} (m : Option Level) (k : Bool) (a : Expr) (g : Expr → Form C (at ns w)) → ((b : Expr) → Served w before (g b)) → Served w before (upto_behind ns m k a g)
  upto None k a g h = h a
  upto (Some m) k a g h = serves_part (λ b. h b)

  tail : {w : What} {before : Word} (m : Option Level) (k : Bool) (a : Expr) (f : Expr → tree_of w) → Served w before (tail_behind ns m k a f)
  tail None k a f = serves_give
  tail (Some m) k a f = alone

  suffixes : {w : What} {before : Word} (k : Bool) (a : Expr) (f : Expr → tree_of w) → Served w before (suffixes_behind ns k a f)
  suffixes true a f = serves_give
  suffixes false a f = alone

  cast : {before : Word} (k : Bool) → Served (Prefixed k) before (cast_or_operand ns k)
  cast k = serves_where (λ t e. serves_pick (serves_part (λ y. serves_take (λ rest. refl) (λ s e. serves_part (λ r. serves_give))))
      (serves_part (λ a. serves_take (λ rest. refl) (λ s e. suffixes k _ _)))) (serves_part (λ a. suffixes k a _))

  index : {before : Word} {dot must : Bool} → Served (Suffixes dot must) before (index_behind ns)
  index = serves_take (λ rest. refl) (λ t e. serves_part (λ i. serves_take (λ rest. refl) (λ s e. alone)))

  named_body : {before : Word} (t : Token) (b : Bool) → Served Body before (body_named ns t b)
  named_body t true = serves_pick (serves_part (λ l. alone)) (serves_part (λ s. alone))
  named_body t false = serves_part (λ s. alone)

  call : {w : What} {before : Word} (o : Option Expr) (a : Expr) (f : Stmt → tree_of w) → Served w before (call_behind ns o a f)
  call o a f = serves_take (λ rest. refl) (λ t e. serves_part (λ xs. serves_take (λ rest. refl) (λ s e. serves_take (λ rest. refl) (λ z e. serves_give))))

  row : {w : What} {before : Word} (o : Option Expr) (n : Token) (b : Bool) (f : Stmt → tree_of w) → Served w before (row_behind ns o n b f)
  row o n false f = serves_take (λ rest. refl) (λ t e. serves_part (λ xs. serves_take (λ rest. refl) (λ s e. serves_take (λ rest. refl) (λ z e. serves_give))))
  row o n true f = serves_take (λ rest. refl) (λ t e. serves_part (λ c. serves_part (λ xs. serves_take (λ rest. refl) (λ s e. serves_take (λ rest. refl) (λ z e. serves_give)))))

  label : {before : Word} (t : Token) → Served (NamedStmt t) before (label_behind ns t)
  label t = serves_take (λ rest. refl) (λ c e. serves_take (λ rest. refl) (λ z e. serves_give))

  named : {before : Word} (t : Token) (r : Role) → Served (NamedStmt t) before (named_behind ns t r)
  named t (TypeName m) = label t
  named t (RowName b) = serves_pick (label t) (row None t b (λ s. s))
  named t _ = serves_pick (label t) alone

  stored : {w : What} {before : Word} (b : Bool) (a : Expr) (f : Stmt → tree_of w) → Served w before (stored_behind ns b a f)
  stored true a f = serves_where (λ t e. alone) (call None a f)
  stored false a f = call None a f

  value : {b : Expr} {before : Word} (a : Expr) → Served (Assigned b) before (value_behind ns a)
  value a = serves_part (λ r. serves_take (λ rest. refl) (λ s e. serves_give))

  assigned : {b : Expr} {before : Word} (t : Token) (r : Role) → Served (Assigned b) before (assigned_named ns t r)
  assigned {b = b} t (RowName y) = row (Some b) t y (λ s. s)
  assigned t _ = alone

  ended : {w : What} {before : Word} (b : Bool) (s : CSignature) (f : Item → tree_of w) → Served w before (declared_end ns b s f)
  ended true s f = serves_where (λ z e. serves_give) alone
  ended false s f = serves_take (λ rest. refl) (λ z e. serves_give)

  variable : {w : What} {before : Word} (c : CType) (n : Token) (f : Item → tree_of w) → Served w before (variable_behind ns c n f)
  variable c n f = serves_part (λ x. serves_take (λ rest. refl) (λ s e. serves_give))

  static : {before : Word} (t : Token) (c : CType) (n : Token) (object main : Bool) → Served (StaticEnd t c) before (static_named ns t c n object main)
  static t c n true false = serves_where (λ a e. variable c n (λ i. i)) alone
  static t c n true true = serves_take (λ rest. refl) (λ a e. variable c n (λ i. i))
  static t c n false main = alone

  table : {w : What} {before : Word} (n : Token) (f : Item → tree_of w) → Served w before (table_behind ns n f)
  table n f = serves_take (λ rest. refl) (λ l e. serves_part (λ g. serves_take (λ rest. refl) (λ r e. serves_take (λ rest. refl) (λ s e. serves_give))))

  info : {before : Word} (t k i n : Token) (c : CType) (object main : Bool) → Served (InfoEnd t k i) before (info_named ns t k i n c object main)
  info t k i n c true false = serves_where (λ a e. serves_pick (table n (λ i. i)) (variable c n (λ i. i))) alone
  info t k i n c true true = serves_take (λ rest. refl) (λ a e. serves_pick (table n (λ i. i)) (variable c n (λ i. i)))
  info t k i n c false main = alone

  info_type : {before : Word} (t k i : Token) (c : CType) (b : Bool) → Served (InfoEnd t k i) before (info_behind ns t k i c b)
  info_type t k i c true = serves_pick (serves_part (λ d. alone)) (serves_take (λ rest. refl) (λ n e. info t k i n c (is_object c) (is_main n.bytes)))
  info_type t k i c false = serves_take (λ rest. refl) (λ n e. serves_take (λ rest. refl) (λ a e. table n (λ i. i)))

  static_base : {before : Word} (t : Token) (u : Word) (b : Token) → Served (StaticRest t) before (static_type ns t u b)
  static_base t u b = serves_part (λ c. alone)

  constant : {before : Word} (t k i : Token) (b : Bool) → Served (StaticRest t) before (static_const ns t k i b)
  constant t k i true = alone
  constant t k i false = static_base t (k ∷ []) i

  typed : {line : Bool} {before : Word} (u : Word) (b : Token) → Served (ItemOf line) before (typed_item ns u b)
  typed u b = serves_part (λ c. alone)

  texts : {before : Word} (u : Word) → Served TextsType before (texts_behind ns u)
  texts u = serves_take (λ rest. refl) (λ t e. serves_part (λ v. serves_take (λ rest. refl) (λ p e. serves_part (λ x. serves_take (λ rest. refl) (λ q e. alone)))))

  -- the name of a struct by its tag
  tagged : (rest before : Word) (g : Token) → is_name_of (behind_first g.bytes) (kind (first_that kind (is_name_of (behind_first g.bytes)) ((made_up «end»).offers rest) ((made_up «end»).otherwise rest (g ∷ before)))) ≡ true
  tagged rest before g =
      first_passes (is_name_of (behind_first g.bytes)) ((made_up «end»).offers rest) (made_name (behind_stop «end» rest) (behind_first g.bytes)) (equal_bytes (behind_first g.bytes) (behind_first g.bytes) refl)

  plain : Served PlainStmt [] (form ns PlainStmt)
  unfolding form
  plain =
      serves_where (λ t e. serves_part (λ r. serves_take (λ rest. refl) (λ z e. alone)))
      (serves_where (λ t e. serves_part (λ a. serves_take (λ rest. refl) (λ s e. alone)))
      (serves_pick (serves_part (λ a. alone))
      (serves_pick alone
      (serves_where (λ i e. serves_take (λ rest. refl) (λ t e. serves_part (λ a. serves_take (λ rest. refl) (λ s e. serves_pick alone (serves_part (λ b. alone))))))
      (serves_pick alone
      (serves_where (λ i e. serves_take (λ rest. refl) (λ t e. serves_part (λ a. serves_take (λ rest. refl) (λ s e.
      serves_take (λ rest. refl) (λ l e. serves_part (λ r. serves_take (λ rest. refl) (λ z e. serves_give)))))))
      (serves_take (λ rest. refl) (λ t e. serves_where (λ z e. serves_give) (serves_part (λ a. serves_take (λ rest. refl) (λ z e. serves_give)))))))))))

  assigned_form : (b : Expr) → Served (Assigned b) [] (form ns (Assigned b))
  unfolding form
  assigned_form b =
      serves_where (λ t e. assigned t (role_of ns t.bytes))
      (serves_where (λ t e. serves_part (λ r. value _))
      (serves_where (λ t e. serves_part (λ r. value _))
      (serves_where (λ t e. serves_pick (serves_part (λ y. serves_take (λ rest. refl) (λ s e. serves_part (λ r. value _)))) (serves_part (λ a. serves_take (λ rest. refl) (λ s e. alone))))
      (serves_part (λ a. alone)))))

  parameters : (main : Bool) → Served (ParametersOf main) [] (form ns (ParametersOf main))
  unfolding form
  parameters true = serves_part (λ c. serves_part (λ p. serves_take (λ rest. refl) (λ m e. serves_part (λ d. alone))))
  parameters false =
      serves_where (λ t e. serves_pick (serves_part (λ c. serves_part (λ p. alone))) serves_give)
      (serves_where (λ t e. serves_part (λ u. serves_take (λ rest. refl) (λ b e. serves_part (λ c. serves_part (λ p. alone)))))
      (serves_take (λ rest. refl) (λ b e. serves_part (λ c. serves_part (λ p. alone)))))

  typedef : (t : Token) → Served (TypedefRest t) [] (form ns (TypedefRest t))
  unfolding form
  typedef t =
      serves_where (λ s e. serves_take (λ rest. refl) (λ g e. serves_take (λ rest. tagged rest (s ∷ []) g) (λ n e. serves_take (λ rest. refl) (λ z e. serves_give))))
      (serves_where (λ s e. serves_take (λ rest. refl) (λ l e. serves_part (λ ms. serves_take (λ rest. refl) (λ r e. serves_take (λ rest. refl) (λ n e. serves_take (λ rest. refl) (λ z e. serves_give))))))
      (serves_part (λ r. serves_take (λ rest. refl) (λ o e. serves_take (λ rest. refl) (λ s e. serves_take (λ rest. refl) (λ n e. serves_take (λ rest. refl) (λ c e. serves_take (λ rest. refl) (λ p e.
      serves_part (λ ps. serves_take (λ rest. refl) (λ q e. serves_take (λ rest. refl) (λ z e. serves_give)))))))))))

  item_form : (line : Bool) → Served (ItemOf line) [] (form ns (ItemOf line))
  unfolding form
  item_form true =
      serves_where (λ t e. serves_take (λ rest. refl) (λ i e. serves_take (λ rest. refl) (λ h e. serves_give)))
      (serves_where (λ t e. alone)
      (serves_where (λ s e. serves_take (λ rest. refl) (λ g e. serves_take (λ rest. refl) (λ l e. serves_part (λ fs. serves_take (λ rest. refl) (λ r e. serves_take (λ rest. refl) (λ z e. serves_give))))))
      (serves_where (λ t e. alone)
      (serves_where (λ t e. serves_part (λ u. serves_take (λ rest. refl) (λ b e. typed _ b))) (serves_take (λ rest. refl) (λ b e. typed [] b))))))
  item_form false =
      serves_where (λ t e. serves_take (λ rest. refl) (λ i e. serves_take (λ rest. refl) (λ h e. serves_give)))
      (serves_where (λ t e. alone)
      (serves_where (λ s e. serves_take (λ rest. refl) (λ g e. serves_take (λ rest. refl) (λ l e. serves_part (λ fs. serves_take (λ rest. refl) (λ r e. serves_take (λ rest. refl) (λ z e. serves_give))))))
      (serves_where (λ t e. alone)
      (serves_where (λ t e. serves_part (λ u. serves_take (λ rest. refl) (λ b e. typed _ b))) (serves_take (λ rest. refl) (λ b e. typed [] b))))))

  served : (w : What) → Served w [] (form ns w)
  unfolding form
  served Consts = serves_where (λ t e. alone) serves_give
  served (Stars true) = serves_take (λ rest. refl) (λ t e. serves_part (λ u. alone))
  served (Stars false) = serves_where (λ t e. serves_part (λ u. alone)) serves_give
  served (TypeRest u t must) = serves_where (λ c e. serves_part (λ v. alone)) alone
  served (TypeMore u t) = serves_where (λ c e. serves_part (λ v. alone)) alone
  served (AnyType anyhow object) = serves_where (λ t e. serves_part (λ u. serves_take (λ rest. refl) (λ b e. alone))) (serves_take (λ rest. refl) (λ b e. alone))
  served (Value k) = alone
  served (Choosing k) = serves_part (λ o. alone)
  served (ChoosingTail k a) = serves_part (λ t. serves_where (λ q e. serves_part (λ b. serves_take (λ rest. refl) (λ s e. alone))) serves_give)
  served (Upto l k a) = upto (tighter l) k a _ (λ b. alone)
  served (Links l k) = serves_where (λ t e. serves_part (λ b. alone)) serves_give
  served (Operand l k) = serves_part (λ o. tail (tighter l) k _ _)
  served (Prefixed true) = serves_where (λ t e. alone) (cast true)
  served (Prefixed false) = serves_where (λ t e. alone) (serves_where (λ t e. alone) (cast false))
  served Place = serves_where (λ t e. alone) (serves_where (λ t e. serves_part (λ a. serves_take (λ rest. refl) (λ s e. alone))) (serves_part (λ a. alone)))
  served (Primary k) = serves_where (λ t e. serves_give) alone
  served Unnamed = serves_where (λ t e. serves_give) (serves_where (λ t e. serves_take (λ rest. refl) (λ r e. serves_part (λ y. serves_take (λ rest. refl) (λ s e. serves_give))))
      (serves_take (λ rest. refl) (λ t e. serves_take (λ rest. refl) (λ r e. serves_part (λ y. serves_take (λ rest. refl) (λ m e. serves_take (λ rest. refl) (λ n e. serves_take (λ rest. refl) (λ s e. serves_give))))))))
  served (Suffixes dot true) = serves_where (λ t e. serves_take (λ rest. refl) (λ n e. alone)) index
  served (Suffixes dot false) = serves_where (λ t e. serves_take (λ rest. refl) (λ n e. alone)) (serves_pick index serves_give)
  served Arguments = serves_pick (serves_part (λ a. alone)) serves_give
  served MoreArguments = serves_where (λ t e. serves_part (λ a. alone)) serves_give
  served KeyType = serves_where (λ t e. serves_part (λ u. serves_take (λ rest. refl) (λ b e. alone))) (serves_take (λ rest. refl) (λ b e. alone))
  served LocalOf = serves_part (λ c. serves_take (λ rest. refl) (λ n e. serves_take (λ rest. refl) (λ s e. serves_give)))
  served (LocalRest t) = serves_pick (serves_part (λ c. serves_take (λ rest. refl) (λ n e. serves_take (λ rest. refl) (λ s e. serves_give)))) (serves_take (λ rest. refl) (λ n e. serves_take (λ rest. refl) (λ s e. serves_give)))
  served SignedNumberOf = serves_where (λ m e. serves_take (λ rest. refl) (λ t e. serves_give)) (serves_take (λ rest. refl) (λ t e. serves_give))
  served GotoOf = serves_take (λ rest. refl) (λ t e. serves_take (λ rest. refl) (λ n e. serves_take (λ rest. refl) (λ s e. serves_give)))
  served Cases = serves_where (λ t e. serves_part (λ x. serves_take (λ rest. refl) (λ c e. serves_part (λ n. alone)))) (serves_take (λ rest. refl) (λ d e. serves_take (λ rest. refl) (λ c e. alone)))
  served BlockOf = serves_take (λ rest. refl) (λ t e. serves_part (λ r. serves_take (λ rest. refl) (λ s e. serves_give)))
  served Body = serves_pick (serves_part (λ c. serves_take (λ rest. refl) (λ n e. serves_take (λ rest. refl) (λ s e. alone))))
      (serves_where (λ t e. named_body t (can_be_type true (role_of ns t.bytes))) (serves_pick (serves_part (λ s. alone)) serves_give))
  served Statements = serves_pick (serves_part (λ s. alone)) serves_give
  served Statement = serves_where (λ t e. alone) alone
  served PlainStmt = plain
  served (NamedStmt t) = named t (role_of ns t.bytes)
  served (ValueStmt a) = serves_part (λ xs. stored (is_place (suffixed a xs)) (suffixed a xs) (λ s. s))
  served (Assigned b) = assigned_form b
  served (AssignedTail b a) = serves_part (λ xs. serves_pick (call (Some b) (suffixed a xs) (λ s. s)) (serves_part (λ r. serves_take (λ rest. refl) (λ s e. serves_give))))
  served (ElseOf a b) = serves_where (λ l e. alone) serves_give
  served MemberOf = serves_take (λ rest. refl) (λ n e. serves_take (λ rest. refl) (λ z e. alone))
  served Members = serves_part (λ m. alone)
  served MoreMembers = serves_where (λ t e. serves_part (λ m. alone)) serves_give
  served Fields = serves_pick (serves_part (λ l. alone)) serves_give
  served ParameterOf = serves_part (λ c. alone)
  served (ParameterEnd c) = serves_where (λ n e. serves_give) serves_give
  served MoreParameters = serves_where (λ t e. serves_part (λ p. alone)) serves_give
  served (ParametersOf main) = parameters main
  served IntType = serves_where (λ t e. serves_part (λ u. serves_take (λ rest. refl) (λ b e. alone))) (serves_take (λ rest. refl) (λ b e. alone))
  served TextsType = serves_where (λ t e. serves_part (λ u. texts (t ∷ u))) (texts [])
  served TableInside = serves_take (λ rest. refl) (λ p e. serves_take (λ rest. refl) (λ y e. serves_take (λ rest. refl) (λ q e. serves_take (λ rest. refl) (λ f e.
      serves_take (λ rest. refl) (λ d e. serves_take (λ rest. refl) (λ x e. serves_take (λ rest. refl) (λ m e. serves_take (λ rest. refl) (λ z e. serves_give))))))))
  served (DeclaredOf b c n from) = serves_take (λ rest. refl) (λ o e. serves_part (λ ps. serves_take (λ rest. refl) (λ s e. ended (list_all has_name ps) _ _)))
  served (TypedEnd c) = serves_take (λ rest. refl) (λ n e. alone)
  served (StaticEnd t c) = serves_take (λ rest. refl) (λ n e. static t c n (is_object c) (is_main n.bytes))
  served (InfoEnd t k i) = info_type t k i (type_of (k ∷ []) i [] no_stars) (can_be_type true (role_of ns i.bytes))
  served (StaticRest t) = serves_where (λ k e. serves_where (λ i e. constant t k i (bytes_eq i.bytes (codes "GInterfaceInfo")))
      (serves_where (λ x e. serves_part (λ u. serves_take (λ rest. refl) (λ b e. static_base t _ b))) (serves_take (λ rest. refl) (λ b e. static_base t (k ∷ []) b)))) (serves_take (λ rest. refl) (λ b e. static_base t [] b))
  served (TypedefRest t) = typedef t
  served (ItemOf line) = item_form line
  served (ItemsOf line) = serves_pick (serves_part (λ i. alone)) serves_give

-- what is made up serves each part
pub serves : («end» : ℕ) (p : Part) → Serves C (made_up «end») p [] (form p.names p.what)
serves «end» p = served «end» p.names p.what
