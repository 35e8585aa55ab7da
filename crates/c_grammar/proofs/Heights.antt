-- Where all is made up, the parts fall in height.
use Rattle.std.proofs.Common.{◌≡◌, ℕ, suc, ◌≤◌, not, Bool, true, false, [], ◌∷◌, Option, None, refl, nat_lt, ltb-true, arith}
use Rattle.predictive_grammar.specs.Forms.{Form, part}
use Rattle.mending_readers.specs.Mending.{Lower, lower_give, lower_take, lower_part, lower_pick}
use Rattle.std.specs.List.{list_all}
use Rattle.c_tree.specs.declared.operators.Level.{Level}
use Rattle.c_tree.specs.declared.operators.Level.TheVariants as level
use Rattle.c_tree.specs.declared.code.Expr.{Expr}
use Rattle.c_tree.specs.declared.code.Stmt.{Stmt}
use Rattle.c_tree.specs.declared.names.CType.{CType}
use Rattle.c_tree.specs.declared.unit.Signature.{Signature as CSignature}
use Rattle.c_tree.specs.declared.unit.Item.{Item}
use Rattle.c_tree.specs.Words.{Token, Word}
use Rattle.c_tree.specs.Names.{Names, Role, TypeName, RowName, role_of}
use Rattle.c_tree.specs.Types.{is_object, can_be_type}
use Rattle.c_tree.specs.Items.{has_name}
use Rattle.c_tree.specs.Values.{is_place}
use Rattle.c_tree.specs.Make.{suffixed}
use Rattle.c_grammar.specs.Tests.{level_number, is_main}
use Rattle.c_grammar.specs.Trees.{type_of, no_stars}
use Rattle.c_grammar.specs.Parts.{What, Part, tree_of, at, Consts, Stars, TypeRest, TypeMore, AnyType, Value, Choosing, ChoosingTail, Upto, Links, Operand, Prefixed, Place, Primary, Unnamed, Suffixes, Arguments, MoreArguments, KeyType, LocalOf, LocalRest, SignedNumberOf, GotoOf, Cases, BlockOf, Body, Statements, Statement, PlainStmt, NamedStmt, ValueStmt, Assigned, AssignedTail, ElseOf, MemberOf, Members, MoreMembers, Fields, ParameterOf, ParameterEnd, MoreParameters, ParametersOf, IntType, TextsType, TableInside, DeclaredOf, TypedEnd, StaticEnd, InfoEnd, StaticRest, TypedefRest, ItemOf, ItemsOf}
use Rattle.c_grammar.specs.Grammar.{C, form, row_behind, named_behind, call_behind, stored_behind, declared_end, variable_behind, static_named, info_named, info_behind}
use Rattle.c_grammar.specs.Mending.{tallest}

-- how many parts ask for one another in what is made up for each
abbrev pub height_of : What → ℕ
height_of (Stars true) = 1
height_of (TypeRest u t must) = 2
height_of (TypeMore u t) = 2
height_of (AnyType anyhow object) = 3
height_of (Value k) = 13
height_of (Choosing k) = 12
height_of (ChoosingTail k a) = 11
height_of (Upto l k a) = suc (level_number l)
height_of (Operand l k) = 12
height_of (Prefixed k) = 6
height_of Place = 15
height_of (Primary k) = 5
height_of Unnamed = 4
height_of (Suffixes dot true) = 14
height_of KeyType = 3
height_of LocalOf = 4
height_of Cases = 1
height_of BlockOf = 1
height_of Statement = 15
height_of PlainStmt = 14
height_of (NamedStmt t) = 5
height_of (ValueStmt a) = 1
height_of (Assigned b) = 13
height_of (AssignedTail b a) = 12
height_of MemberOf = 1
height_of Members = 2
height_of ParameterOf = 4
height_of (ParametersOf main) = 3
height_of IntType = 1
height_of TextsType = 1
height_of (DeclaredOf b c n from) = 4
height_of (TypedEnd c) = 5
height_of (StaticEnd t c) = 14
height_of (InfoEnd t k i) = 14
height_of (StaticRest t) = 15
height_of (TypedefRest t) = 4
height_of (ItemOf line) = 6
height_of w = 0

abbrev pub height : Part → ℕ
height p = height_of p.what

module _ (ns : Names) where
  abbrev Lowered : (w : What) → Form C (at ns w) → Type 0
  Lowered w form = Lower C height (at ns w) form

  asks : {w : What} {q : Part} {up : ℕ → ℕ} {k : tree_of q.what → Form C (at ns w)} → nat_lt (height_of q.what) (height_of w) ≡ true → ((b : tree_of q.what) → Lowered w (k b)) → Lowered w (part up q k)
  asks {w = w} {q = q} e f = lower_part (ltb-true (height_of q.what) (height_of w) e) f

  suffixes_low : (dot must : Bool) → nat_lt (height_of (Suffixes dot must)) 15 ≡ true
  suffixes_low dot true = refl
  suffixes_low dot false = refl

  low_type : (u : Word) (t : Token) (must : Bool) → Lowered (TypeRest u t must) (form ns (TypeRest u t must))
  unfolding form
  low_type u t true = lower_pick (asks refl (λ s. lower_give))
  low_type u t false = lower_pick (asks refl (λ s. lower_give))

  low_upto : (l : Level) (k : Bool) (a : Expr) → Lowered (Upto l k a) (form ns (Upto l k a))
  unfolding form
  low_upto level.Product k a = asks refl (λ ls. lower_give)
  low_upto level.Sum k a = asks refl (λ b. asks refl (λ ls. lower_give))
  low_upto level.Shift k a = asks refl (λ b. asks refl (λ ls. lower_give))
  low_upto level.Relation k a = asks refl (λ b. asks refl (λ ls. lower_give))
  low_upto level.Equality k a = asks refl (λ b. asks refl (λ ls. lower_give))
  low_upto level.BitAnd k a = asks refl (λ b. asks refl (λ ls. lower_give))
  low_upto level.BitXor k a = asks refl (λ b. asks refl (λ ls. lower_give))
  low_upto level.BitOr k a = asks refl (λ b. asks refl (λ ls. lower_give))
  low_upto level.And k a = asks refl (λ b. asks refl (λ ls. lower_give))
  low_upto level.Or k a = asks refl (λ b. asks refl (λ ls. lower_give))

  low_operand : (l : Level) (k : Bool) → Lowered (Operand l k) (form ns (Operand l k))
  unfolding form
  low_operand level.Product k = asks refl (λ o. lower_give)
  low_operand level.Sum k = asks refl (λ o. asks refl (λ a. lower_give))
  low_operand level.Shift k = asks refl (λ o. asks refl (λ a. lower_give))
  low_operand level.Relation k = asks refl (λ o. asks refl (λ a. lower_give))
  low_operand level.Equality k = asks refl (λ o. asks refl (λ a. lower_give))
  low_operand level.BitAnd k = asks refl (λ o. asks refl (λ a. lower_give))
  low_operand level.BitXor k = asks refl (λ o. asks refl (λ a. lower_give))
  low_operand level.BitOr k = asks refl (λ o. asks refl (λ a. lower_give))
  low_operand level.And k = asks refl (λ o. asks refl (λ a. lower_give))
  low_operand level.Or k = asks refl (λ o. asks refl (λ a. lower_give))

  low_call : {w : What} (o : Option Expr) (a : Expr) (f : Stmt → tree_of w) → nat_lt 0 (height_of w) ≡ true → Lowered w (call_behind ns o a f)
  low_call o a f e = lower_take (λ t. asks e (λ xs. lower_take (λ s. lower_take (λ z. lower_give))))

  low_row : {w : What} (o : Option Expr) (n : Token) (b : Bool) (f : Stmt → tree_of w) → nat_lt 0 (height_of w) ≡ true → nat_lt 3 (height_of w) ≡ true → Lowered w (row_behind ns o n b f)
  low_row o n false f e g = lower_take (λ t. asks e (λ xs. lower_take (λ s. lower_take (λ z. lower_give))))
  low_row o n true f e g = lower_take (λ t. asks g (λ c. asks e (λ xs. lower_take (λ s. lower_take (λ z. lower_give)))))

  low_named : (t : Token) (r : Role) → Lowered (NamedStmt t) (named_behind ns t r)
  low_named t (TypeName m) = lower_take (λ c. lower_take (λ z. lower_give))
  low_named t (RowName b) = lower_pick (low_row None t b (λ s. s) refl refl)
  low_named t _ = lower_pick (asks refl (λ s. lower_give))

  low_stored : (v : Expr) (b : Bool) (a : Expr) → Lowered (ValueStmt v) (stored_behind ns b a (λ s. s))
  low_stored v true a = lower_pick (low_call None a (λ s. s) refl)
  low_stored v false a = low_call None a (λ s. s) refl

  low_parameters : (main : Bool) → Lowered (ParametersOf main) (form ns (ParametersOf main))
  unfolding form
  low_parameters true = asks refl (λ c. asks refl (λ p. lower_take (λ m. asks refl (λ d. asks refl (λ q. lower_give)))))
  low_parameters false = lower_pick (lower_pick (lower_take (λ b. asks refl (λ c. asks refl (λ p. asks refl (λ ps. lower_give))))))

  low_ended : {w : What} (b : Bool) (s : CSignature) (f : Item → tree_of w) → nat_lt 1 (height_of w) ≡ true → Lowered w (declared_end ns b s f)
  low_ended true s f e = lower_pick (asks e (λ b. lower_give))
  low_ended false s f e = lower_take (λ z. lower_give)

  low_variable : {w : What} (c : CType) (n : Token) (f : Item → tree_of w) → nat_lt 13 (height_of w) ≡ true → Lowered w (variable_behind ns c n f)
  low_variable c n f e = asks e (λ x. lower_take (λ s. lower_give))

  low_static : (t : Token) (c : CType) (n : Token) (object main : Bool) → Lowered (StaticEnd t c) (static_named ns t c n object main)
  low_static t c n true false = lower_pick (asks refl (λ i. lower_give))
  low_static t c n true true = lower_take (λ a. low_variable c n (λ i. i) refl)
  low_static t c n false main = asks refl (λ i. lower_give)

  low_info : (t k i n : Token) (c : CType) (object main : Bool) → Lowered (InfoEnd t k i) (info_named ns t k i n c object main)
  low_info t k i n c true false = lower_pick (asks refl (λ i. lower_give))
  low_info t k i n c true true = lower_take (λ a. lower_pick (low_variable c n (λ i. i) refl))
  low_info t k i n c false main = asks refl (λ i. lower_give)

  low_info_type : (t k i : Token) (c : CType) (b : Bool) → Lowered (InfoEnd t k i) (info_behind ns t k i c b)
  low_info_type t k i c true = lower_pick (lower_take (λ n. low_info t k i n c (is_object c) (is_main n.bytes)))
  low_info_type t k i c false = lower_take (λ n. lower_take (λ a. lower_take (λ l. asks refl (λ g. lower_take (λ r. lower_take (λ s. lower_give))))))

  low_suffixes : (dot must : Bool) → Lowered (Suffixes dot must) (form ns (Suffixes dot must))
  unfolding form
  low_suffixes dot true = lower_pick (lower_take (λ t. asks refl (λ i. lower_take (λ s. asks refl (λ xs. lower_give)))))
  low_suffixes dot false = lower_pick (lower_pick lower_give)

  lowered : (w : What) → Lowered w (form ns w)
  unfolding form
  lowered Consts = lower_pick lower_give
  lowered (Stars true) = lower_take (λ t. asks refl (λ u. asks refl (λ s. lower_give)))
  lowered (Stars false) = lower_pick lower_give
  lowered (TypeRest u t must) = low_type u t must
  lowered (TypeMore u t) = lower_pick (asks refl (λ s. lower_give))
  lowered (AnyType anyhow object) = lower_pick (lower_take (λ t. asks refl (λ c. lower_give)))
  lowered (Value k) = asks refl (λ r. lower_give)
  lowered (Choosing k) = asks refl (λ o. asks refl (λ r. lower_give))
  lowered (ChoosingTail k a) = asks refl (λ t. lower_pick lower_give)
  lowered (Upto l k a) = low_upto l k a
  lowered (Links l k) = lower_pick lower_give
  lowered (Operand l k) = low_operand l k
  lowered (Prefixed true) = lower_pick (lower_pick (asks refl (λ a. lower_give)))
  lowered (Prefixed false) = lower_pick (lower_pick (lower_pick (asks refl (λ a. asks refl (λ xs. lower_give)))))
  lowered Place = lower_pick (lower_pick (asks refl (λ a. asks (suffixes_low (is_place a) (not (is_place a))) (λ xs. lower_give))))
  lowered (Primary k) = lower_pick (asks refl (λ a. lower_give))
  lowered Unnamed = lower_pick (lower_pick (lower_take (λ t. lower_take (λ r. asks refl (λ y. lower_take (λ m. lower_take (λ n. lower_take (λ s. lower_give))))))))
  lowered (Suffixes dot must) = low_suffixes dot must
  lowered Arguments = lower_pick lower_give
  lowered MoreArguments = lower_pick lower_give
  lowered KeyType = lower_pick (lower_take (λ t. asks refl (λ c. lower_give)))
  lowered LocalOf = asks refl (λ c. lower_take (λ n. lower_take (λ s. lower_give)))
  lowered (LocalRest t) = lower_pick (lower_take (λ n. lower_take (λ s. lower_give)))
  lowered SignedNumberOf = lower_pick (lower_take (λ t. lower_give))
  lowered GotoOf = lower_take (λ t. lower_take (λ n. lower_take (λ s. lower_give)))
  lowered Cases = lower_pick (lower_take (λ d. lower_take (λ c. asks refl (λ n. lower_give))))
  lowered BlockOf = lower_take (λ t. asks refl (λ r. lower_take (λ s. lower_give)))
  lowered Body = lower_pick (lower_pick (lower_pick lower_give))
  lowered Statements = lower_pick lower_give
  lowered Statement = lower_pick (asks refl (λ s. lower_give))
  lowered PlainStmt = lower_pick (lower_pick (lower_pick (lower_pick (lower_pick (lower_pick (lower_pick (lower_take (λ t. lower_pick (asks refl (λ a. lower_take (λ z. lower_give)))))))))))
  lowered (NamedStmt t) = low_named t (role_of ns t.bytes)
  lowered (ValueStmt a) = asks refl (λ xs. low_stored a (is_place (suffixed a xs)) (suffixed a xs))
  lowered (Assigned b) = lower_pick (lower_pick (lower_pick (lower_pick (asks refl (λ a. asks refl (λ s. lower_give))))))
  lowered (AssignedTail b a) = asks refl (λ xs. lower_pick (asks refl (λ r. lower_take (λ s. lower_give))))
  lowered (ElseOf a b) = lower_pick lower_give
  lowered MemberOf = lower_take (λ n. lower_take (λ z. asks refl (λ x. lower_give)))
  lowered Members = asks refl (λ m. asks refl (λ ms. lower_give))
  lowered MoreMembers = lower_pick lower_give
  lowered Fields = lower_pick lower_give
  lowered ParameterOf = asks refl (λ c. asks refl (λ p. lower_give))
  lowered (ParameterEnd c) = lower_pick lower_give
  lowered MoreParameters = lower_pick lower_give
  lowered (ParametersOf main) = low_parameters main
  lowered IntType = lower_pick (lower_take (λ b. asks refl (λ v. lower_give)))
  lowered TextsType = lower_pick (lower_take (λ t. asks refl (λ v. lower_take (λ p. asks refl (λ x. lower_take (λ q. asks refl (λ y. lower_give)))))))
  lowered TableInside = lower_take (λ p. lower_take (λ y. lower_take (λ q. lower_take (λ f. lower_take (λ d. lower_take (λ x. lower_take (λ m. lower_take (λ z. lower_give))))))))
  lowered (DeclaredOf b c n from) = lower_take (λ o. asks refl (λ ps. lower_take (λ s. low_ended (list_all has_name ps) _ _ refl)))
  lowered (TypedEnd c) = lower_take (λ n. asks refl (λ i. lower_give))
  lowered (StaticEnd t c) = lower_take (λ n. low_static t c n (is_object c) (is_main n.bytes))
  lowered (InfoEnd t k i) = low_info_type t k i (type_of (k ∷ []) i [] no_stars) (can_be_type true (role_of ns i.bytes))
  lowered (StaticRest t) = lower_pick (lower_take (λ b. asks refl (λ c. asks refl (λ i. lower_give))))
  lowered (TypedefRest t) = lower_pick (lower_pick (asks refl (λ r. lower_take (λ o. lower_take (λ s. lower_take (λ n. lower_take (λ c. lower_take (λ p. asks refl (λ ps. lower_take (λ q. lower_take (λ z. lower_give)))))))))))
  lowered (ItemOf line) = lower_pick (lower_pick (lower_pick (lower_pick (lower_pick (lower_take (λ b. asks refl (λ c. asks refl (λ i. lower_give))))))))
  lowered (ItemsOf line) = lower_pick lower_give

-- each form's parts are lower
pub lowers : (p : Part) → Lower C height p (form p.names p.what)
lowers p = lowered p.names p.what

level_low : (l : Level) → suc (level_number l) ≤ 20
level_low level.Product = omega arith
level_low _ = omega arith

height_low : (w : What) → height_of w ≤ 20
height_low (Upto l k a) = level_low l
height_low (Stars true) = omega arith
height_low (Suffixes dot true) = omega arith
height_low _ = omega arith

pub low : (p : Part) → height p ≤ tallest
low p = height_low p.what
