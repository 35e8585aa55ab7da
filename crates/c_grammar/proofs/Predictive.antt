-- Each part has a text, and one token of lookahead reads the grammar.
use Rattle.std.proofs.Common.{◌≡◌, ℕ, suc, ◌≤◌, Bool, true, false, refl, [], ◌∷◌, arith, nat_lt, Option, Some, None, codes}
use Rattle.predictive_grammar.specs.Forms.{Form}
use Rattle.predictive_grammar.specs.Follows.{Word, given, second, Reads}
use Rattle.predictive_grammar.specs.Fit.{IsPredictive}
use Rattle.predictive_grammar.proofs.Ways.{Way, end, by_token, by_text, by_known, one, other, some_text}
use Rattle.c_lexer.specs.declared.token.Keyword.{Keyword}
use Rattle.c_lexer.specs.declared.token.Keyword.TheVariants as keyword
use Rattle.c_lexer.specs.declared.token.Sign.{Sign}
use Rattle.c_lexer.specs.declared.token.Sign.TheVariants as sign
use Rattle.c_tree.specs.declared.operators.Level.{Level}
use Rattle.c_tree.specs.declared.operators.Level.TheVariants as level
use Rattle.c_tree.specs.declared.code.Expr.{Expr}
use Rattle.c_tree.specs.declared.code.Stmt.{Stmt}
use Rattle.std.specs.List.{list_all}
use Rattle.c_lexer.specs.declared.token.Constant.TheVariants as constant
use Rattle.c_lexer.specs.declared.token.TokenKind.TheVariants as k
use Rattle.c_tree.specs.declared.names.CType.{CType}
use Rattle.c_tree.specs.declared.unit.Include.TheVariants as include
use Rattle.c_tree.specs.declared.unit.Signature.{Signature as CSignature}
use Rattle.c_tree.specs.declared.unit.Item.{Item}
use Rattle.c_tree.specs.Types.{is_object, can_be_type}
use Rattle.c_tree.specs.Items.{has_name}
use Rattle.c_tree.specs.Words.{Of, Header, Token}
use Rattle.c_tree.specs.Names.{Names, Role, TypeName, role_of}
use Rattle.c_tree.specs.Values.{is_place}
use Rattle.c_tree.specs.Make.{suffixed}
use Rattle.c_grammar.specs.Sorts.{Kind, kind}
use Rattle.c_grammar.specs.Tests.{level_number, is_main}
use Rattle.c_grammar.specs.Parts.{What, Part, tree_of, at, Consts, Stars, TypeRest, TypeMore, AnyType, Value, Choosing, ChoosingTail, Upto, Links, Operand, Prefixed, Place, Primary, Unnamed, Suffixes, Arguments, MoreArguments, KeyType, LocalOf, LocalRest, SignedNumberOf, GotoOf, Cases, BlockOf, Body, Statements, Statement, PlainStmt, NamedStmt, ValueStmt, Assigned, AssignedTail, ElseOf, MemberOf, Members, MoreMembers, Fields, ParameterOf, ParameterEnd, MoreParameters, ParametersOf, IntType, TextsType, TableInside, DeclaredOf, TypedEnd, StaticEnd, InfoEnd, StaticRest, TypedefRest, ItemOf, ItemsOf}
use Rattle.c_grammar.specs.Trees.{type_of, no_stars}
use Rattle.c_grammar.specs.Grammar.{C, forms, form, call_behind, stored_behind, label_behind, named_behind, declared_end, variable_behind, static_named, table_behind, info_named, info_behind}
use Rattle.c_grammar.specs.Tables.{tables, rank_of}
use Rattle.c_grammar.proofs.Samples.{a_token, a_name_of, a_line_sign, a_sign, a_word, a_number, a_name}
use Rattle.c_grammar.proofs.Fitting.{Suited}
use Rattle.c_grammar.proofs.FitTypes.{fit_consts, fit_stars, fit_type_rest, fit_type_more, fit_any_type}
use Rattle.c_grammar.proofs.FitChains.{fit_value, fit_choosing, fit_choosing_tail, fit_upto, fit_links, fit_operand}
use Rattle.c_grammar.proofs.FitItems.{fit_member, fit_members, fit_more_members, fit_fields, fit_parameter, fit_parameter_end, fit_more_parameters, fit_parameters, fit_int_type, fit_texts_type, fit_table_inside, fit_declared, fit_typed_end, fit_static_end, fit_info_end, fit_static_rest, fit_typedef, fit_item, fit_items}
use Rattle.c_grammar.proofs.FitStatements.{fit_key_type, fit_local_of, fit_local_rest, fit_signed_number, fit_goto, fit_cases, fit_block, fit_body, fit_statements, fit_statement, fit_plain, fit_named, fit_value_stmt, fit_assigned, fit_assigned_tail, fit_else}
use Rattle.c_grammar.proofs.FitOperands.{fit_suffixes, fit_primary, fit_prefixed, fit_place, fit_unnamed, fit_arguments, fit_more_arguments}

-- a token of a kind
abbrev sample : Kind → Token
sample x = record { terminal = x.terminal; bytes = x.bytes; start = 0; «end» = 0; begins_line = x.begins_line }

is_sample : (x : Kind) → kind (sample x) ≡ x
is_sample x = refl

-- how dear a text of each part is: more than those of the parts in it
abbrev cost_of : What → ℕ
cost_of (TypeRest u t must) = 1
cost_of (AnyType anyhow object) = 2
cost_of (Suffixes dot must) = 1
cost_of (Upto l k a) = suc (level_number l)
cost_of (ChoosingTail k a) = 11
cost_of (Prefixed k) = 2
cost_of Place = 2
cost_of (Primary k) = 1
cost_of (Operand l k) = 12
cost_of (Choosing k) = 12
cost_of (Value k) = 13
cost_of (TypeMore u t) = 1
cost_of KeyType = 2
cost_of LocalOf = 3
cost_of Cases = 1
cost_of BlockOf = 1
cost_of PlainStmt = 1
cost_of Statement = 2
cost_of (ValueStmt a) = 2
cost_of (AssignedTail b a) = 2
cost_of (Assigned b) = 3
cost_of (NamedStmt t) = 3
cost_of MemberOf = 1
cost_of Members = 2
cost_of ParameterOf = 3
cost_of IntType = 1
cost_of TextsType = 1
cost_of (ParametersOf main) = 2
cost_of (DeclaredOf b c n from) = 3
cost_of (TypedEnd c) = 4
cost_of (StaticEnd t c) = 14
cost_of (InfoEnd t k i) = 14
cost_of (StaticRest t) = 15
cost_of w = 0

abbrev WayOf : (ns : Names) (w : What) → Form C (at ns w) → Type 0
WayOf ns w form = Way C forms (λ (p : Part). cost_of p.what) sample is_sample (at ns w) form

abbrev sign_kind : Sign → Kind
sign_kind s = kind (a_sign s)

abbrev word_kind : Keyword → Kind
word_kind w = kind (a_word w)

-- no suffixes
none_known : (ns : Names) (l : ℕ) → (w : Word C) × Reads C forms None (at ns (Suffixes true false)) l w []
unfolding form
none_known ns l = ([], second (second (given [])))

way_suffixes : (ns : Names) (dot must : Bool) → WayOf ns (Suffixes dot must) (form ns (Suffixes dot must))
unfolding form
way_suffixes ns dot true = one (by_token (sign_kind sign.Arrow) refl (by_token (kind a_name) refl (by_known [] (none_known ns) end)))
way_suffixes ns dot false = other (other end)

no_const_known : (ns : Names) (l : ℕ) → (w : Word C) × Reads C forms None (at ns Consts) l w []
unfolding form
no_const_known ns l = ([], second (given []))

no_star_known : (ns : Names) (l : ℕ) → (w : Word C) × Reads C forms None (at ns (Stars false)) l w no_stars
unfolding form
no_star_known ns l = ([], second (given no_stars))

way_stars : (ns : Names) (must : Bool) → WayOf ns (Stars must) (form ns (Stars must))
unfolding form
way_stars ns true = by_token (sign_kind sign.Star) refl (by_known [] (no_const_known ns) (by_known no_stars (no_star_known ns) end))
way_stars ns false = other end

way_upto : (ns : Names) (l : Level) (k : Bool) (a : Expr) → WayOf ns (Upto l k a) (form ns (Upto l k a))
unfolding form
way_upto ns level.Product k a = by_text refl (λ ls. end)
way_upto ns level.Sum k a = by_text refl (λ b. by_text refl (λ ls. end))
way_upto ns level.Shift k a = by_text refl (λ b. by_text refl (λ ls. end))
way_upto ns level.Relation k a = by_text refl (λ b. by_text refl (λ ls. end))
way_upto ns level.Equality k a = by_text refl (λ b. by_text refl (λ ls. end))
way_upto ns level.BitAnd k a = by_text refl (λ b. by_text refl (λ ls. end))
way_upto ns level.BitXor k a = by_text refl (λ b. by_text refl (λ ls. end))
way_upto ns level.BitOr k a = by_text refl (λ b. by_text refl (λ ls. end))
way_upto ns level.And k a = by_text refl (λ b. by_text refl (λ ls. end))
way_upto ns level.Or k a = by_text refl (λ b. by_text refl (λ ls. end))

way_operand : (ns : Names) (l : Level) (k : Bool) → WayOf ns (Operand l k) (form ns (Operand l k))
unfolding form
way_operand ns level.Product k = by_text refl (λ o. end)
way_operand ns level.Sum k = by_text refl (λ o. by_text refl (λ a. end))
way_operand ns level.Shift k = by_text refl (λ o. by_text refl (λ a. end))
way_operand ns level.Relation k = by_text refl (λ o. by_text refl (λ a. end))
way_operand ns level.Equality k = by_text refl (λ o. by_text refl (λ a. end))
way_operand ns level.BitAnd k = by_text refl (λ o. by_text refl (λ a. end))
way_operand ns level.BitXor k = by_text refl (λ o. by_text refl (λ a. end))
way_operand ns level.BitOr k = by_text refl (λ o. by_text refl (λ a. end))
way_operand ns level.And k = by_text refl (λ o. by_text refl (λ a. end))
way_operand ns level.Or k = by_text refl (λ o. by_text refl (λ a. end))

way_call : (ns : Names) (w : What) (o : Option Expr) (a : Expr) (f : Stmt → tree_of w) → nat_lt 0 (cost_of w) ≡ true → WayOf ns w (call_behind ns o a f)
way_call ns w o a f e = by_token (sign_kind sign.OpenParen) refl (by_text e (λ xs. by_token (sign_kind sign.CloseParen) refl (by_token (sign_kind sign.Semicolon) refl end)))

way_stored : (ns : Names) (v : Expr) (b : Bool) (a : Expr) → WayOf ns (ValueStmt v) (stored_behind ns b a (λ s. s))
way_stored ns v true a = other (way_call ns (ValueStmt v) None a (λ s. s) refl)
way_stored ns v false a = way_call ns (ValueStmt v) None a (λ s. s) refl

way_label : (ns : Names) (t : Token) → WayOf ns (NamedStmt t) (label_behind ns t)
way_label ns t = by_token (sign_kind sign.Colon) refl (by_token (sign_kind sign.Semicolon) refl end)

way_named : (ns : Names) (t : Token) (r : Role) → WayOf ns (NamedStmt t) (named_behind ns t r)
way_named ns t (TypeName m) = way_label ns t
way_named ns t _ = one (way_label ns t)

way_parameters : (ns : Names) (main : Bool) → WayOf ns (ParametersOf main) (form ns (ParametersOf main))
unfolding form
way_parameters ns true = by_text refl (λ c. by_text refl (λ p. by_token (sign_kind sign.Comma) refl (by_text refl (λ d. by_text refl (λ q. end)))))
way_parameters ns false = one (by_token (word_kind keyword.Void) refl (other end))

way_declared : (ns : Names) {w : What} (b : Bool) (s : CSignature) (f : Item → tree_of w) → WayOf ns w (declared_end ns b s f)
way_declared ns true s f = one (by_token (sign_kind sign.Semicolon) refl end)
way_declared ns false s f = by_token (sign_kind sign.Semicolon) refl end

way_variable : (ns : Names) (w : What) (c : CType) (n : Token) (f : Item → tree_of w) → nat_lt 13 (cost_of w) ≡ true → WayOf ns w (variable_behind ns c n f)
way_variable ns w c n f e = by_text e (λ x. by_token (sign_kind sign.Semicolon) refl end)

way_static : (ns : Names) (t : Token) (c : CType) (n : Token) (object main : Bool) → WayOf ns (StaticEnd t c) (static_named ns t c n object main)
way_static ns t c n true false = other (by_text refl (λ i. end))
way_static ns t c n true true = by_token (sign_kind sign.Assign) refl (way_variable ns (StaticEnd t c) c n (λ i. i) refl)
way_static ns t c n false main = by_text refl (λ i. end)

way_table : (ns : Names) (w : What) (n : Token) (f : Item → tree_of w) → nat_lt 0 (cost_of w) ≡ true → WayOf ns w (table_behind ns n f)
way_table ns w n f e = by_token (sign_kind sign.OpenBrace) refl (by_text e (λ g. by_token (sign_kind sign.CloseBrace) refl (by_token (sign_kind sign.Semicolon) refl end)))

way_info : (ns : Names) (t k i n : Token) (c : CType) (object main : Bool) → WayOf ns (InfoEnd t k i) (info_named ns t k i n c object main)
way_info ns t k i n c true false = other (by_text refl (λ i. end))
way_info ns t k i n c true true = by_token (sign_kind sign.Assign) refl (one (way_table ns (InfoEnd t k i) n (λ i. i) refl))
way_info ns t k i n c false main = by_text refl (λ i. end)

way_info_behind : (ns : Names) (t k i : Token) (c : CType) (b : Bool) → WayOf ns (InfoEnd t k i) (info_behind ns t k i c b)
way_info_behind ns t k i c true = other (by_token (kind a_name) refl (way_info ns t k i (sample (kind a_name)) c (is_object c) (is_main [])))
way_info_behind ns t k i c false = by_token (kind a_name) refl (by_token (sign_kind sign.Assign) refl (way_table ns (InfoEnd t k i) (sample (kind a_name)) (λ i. i) refl))

ways_of : (ns : Names) (w : What) → WayOf ns w (form ns w)
unfolding form
ways_of ns Consts = other end
ways_of ns (Stars must) = way_stars ns must
ways_of ns (TypeRest u t must) = other (by_text refl (λ s. end))
ways_of ns (AnyType anyhow object) = other (by_token (word_kind keyword.Int) refl (by_text refl (λ c. end)))
ways_of ns (Value k) = by_text refl (λ r. end)
ways_of ns (Choosing k) = by_text refl (λ o. by_text refl (λ r. end))
ways_of ns (ChoosingTail k a) = by_text refl (λ t. other end)
ways_of ns (Upto l k a) = way_upto ns l k a
ways_of ns (Links l k) = other end
ways_of ns (Operand l k) = way_operand ns l k
ways_of ns (Prefixed true) = other (other (by_text refl (λ a. end)))
ways_of ns (Prefixed false) = other (other (other (by_text refl (λ a. by_text refl (λ xs. end)))))
ways_of ns Place = other (other (by_text refl (λ a. by_text refl (λ xs. end))))
ways_of ns (Primary k) = other (by_text refl (λ a. end))
ways_of ns Unnamed = one (by_token (kind a_number) refl end)
ways_of ns (Suffixes dot must) = way_suffixes ns dot must
ways_of ns Arguments = other end
ways_of ns MoreArguments = other end
ways_of ns (TypeMore u t) = other (by_text refl (λ s. end))
ways_of ns KeyType = other (by_token (word_kind keyword.Int) refl (by_text refl (λ c. end)))
ways_of ns LocalOf = by_text refl (λ c. by_token (kind a_name) refl (by_token (sign_kind sign.Semicolon) refl end))
ways_of ns (LocalRest t) = other (by_token (kind a_name) refl (by_token (sign_kind sign.Semicolon) refl end))
ways_of ns SignedNumberOf = other (by_token (kind a_number) refl end)
ways_of ns GotoOf = by_token (word_kind keyword.Goto) refl (by_token (kind a_name) refl (by_token (sign_kind sign.Semicolon) refl end))
ways_of ns Cases = other (by_token (word_kind keyword.Default) refl (by_token (sign_kind sign.Colon) refl (by_text refl (λ n. end))))
ways_of ns BlockOf = by_token (sign_kind sign.OpenBrace) refl (by_text refl (λ r. by_token (sign_kind sign.CloseBrace) refl end))
ways_of ns Body = other (other (other end))
ways_of ns Statements = other end
ways_of ns Statement = other (by_text refl (λ s. end))
ways_of ns PlainStmt = other (other (other (other (other (one (by_text refl (λ n. end)))))))
ways_of ns (NamedStmt t) = way_named ns t (role_of ns t.bytes)
ways_of ns (ValueStmt a) = by_text refl (λ xs. way_stored ns a (is_place (suffixed a xs)) (suffixed a xs))
ways_of ns (Assigned b) = other (other (other (other (by_text refl (λ a. by_text refl (λ s. end))))))
ways_of ns (AssignedTail b a) = by_text refl (λ xs. one (way_call ns (AssignedTail b a) (Some b) (suffixed a xs) (λ s. s) refl))
ways_of ns (ElseOf a b) = other end
ways_of ns MemberOf = by_token (kind a_name) refl (by_token (sign_kind sign.Assign) refl (by_text refl (λ x. end)))
ways_of ns Members = by_text refl (λ m. by_text refl (λ ms. end))
ways_of ns MoreMembers = other end
ways_of ns Fields = other end
ways_of ns ParameterOf = by_text refl (λ c. by_text refl (λ p. end))
ways_of ns (ParameterEnd c) = other end
ways_of ns MoreParameters = other end
ways_of ns (ParametersOf main) = way_parameters ns main
ways_of ns IntType = other (by_token (word_kind keyword.Int) refl (by_text refl (λ v. end)))
ways_of ns TextsType = other (by_token (word_kind keyword.Char) refl (by_text refl (λ v. by_token (sign_kind sign.Star) refl (by_text refl (λ x. by_token (sign_kind sign.Star) refl (by_text refl (λ y. end)))))))
ways_of ns TableInside = by_token (sign_kind sign.OpenParen) refl (by_token (kind (a_name_of (codes "GInterfaceInitFunc"))) refl (by_token (sign_kind sign.CloseParen) refl (by_token (kind a_name) refl
    (by_token (sign_kind sign.Comma) refl (by_token (kind (a_token (Of (k.Constant constant.Null)))) refl (by_token (sign_kind sign.Comma) refl (by_token (kind (a_token (Of (k.Constant constant.Null)))) refl end)))))))
ways_of ns (DeclaredOf b c n from) = by_token (sign_kind sign.OpenParen) refl (by_text refl (λ ps. by_token (sign_kind sign.CloseParen) refl (way_declared ns (list_all has_name ps) _ (λ i. i))))
ways_of ns (TypedEnd c) = by_token (kind a_name) refl (by_text refl (λ i. end))
ways_of ns (StaticEnd t c) = by_token (kind a_name) refl (way_static ns t c (sample (kind a_name)) (is_object c) (is_main []))
ways_of ns (InfoEnd t k i) = way_info_behind ns t k i (type_of (k ∷ []) i [] no_stars) (can_be_type true (role_of ns i.bytes))
ways_of ns (StaticRest t) = other (by_token (word_kind keyword.Int) refl (by_text refl (λ c. by_text refl (λ i. end))))
ways_of ns (TypedefRest t) = one (by_token (word_kind keyword.Struct) refl (by_token (kind (a_name_of (95 ∷ []))) refl (by_token (kind a_name) refl (by_token (sign_kind sign.Semicolon) refl end))))
ways_of ns (ItemOf line) = one (by_token (kind (a_line_sign sign.Hash)) refl (by_token (kind (a_name_of (codes "include"))) refl (by_token (kind (a_token (Header include.Glib))) refl end)))
ways_of ns (ItemsOf line) = other end

suited_part : (ns : Names) (w : What) → Suited ns w
suited_part ns Consts = fit_consts ns
suited_part ns (Stars must) = fit_stars ns must
suited_part ns (TypeRest u t must) = fit_type_rest ns u t must
suited_part ns (AnyType anyhow object) = fit_any_type ns anyhow object
suited_part ns (Value k) = fit_value ns k
suited_part ns (Choosing k) = fit_choosing ns k
suited_part ns (ChoosingTail k a) = fit_choosing_tail ns k a
suited_part ns (Upto l k a) = fit_upto ns l k a
suited_part ns (Links l k) = fit_links ns l k
suited_part ns (Operand l k) = fit_operand ns l k
suited_part ns (Prefixed k) = fit_prefixed ns k
suited_part ns Place = fit_place ns
suited_part ns Unnamed = fit_unnamed ns
suited_part ns (Primary k) = fit_primary ns k
suited_part ns (Suffixes dot must) = fit_suffixes ns dot must
suited_part ns Arguments = fit_arguments ns
suited_part ns MoreArguments = fit_more_arguments ns
suited_part ns (TypeMore u t) = fit_type_more ns u t
suited_part ns KeyType = fit_key_type ns
suited_part ns LocalOf = fit_local_of ns
suited_part ns (LocalRest t) = fit_local_rest ns t
suited_part ns SignedNumberOf = fit_signed_number ns
suited_part ns GotoOf = fit_goto ns
suited_part ns Cases = fit_cases ns
suited_part ns BlockOf = fit_block ns
suited_part ns Body = fit_body ns
suited_part ns Statements = fit_statements ns
suited_part ns Statement = fit_statement ns
suited_part ns PlainStmt = fit_plain ns
suited_part ns (NamedStmt t) = fit_named ns t
suited_part ns (ValueStmt a) = fit_value_stmt ns a
suited_part ns (Assigned b) = fit_assigned ns b
suited_part ns (AssignedTail b a) = fit_assigned_tail ns b a
suited_part ns (ElseOf a b) = fit_else ns a b
suited_part ns MemberOf = fit_member ns
suited_part ns Members = fit_members ns
suited_part ns MoreMembers = fit_more_members ns
suited_part ns Fields = fit_fields ns
suited_part ns ParameterOf = fit_parameter ns
suited_part ns (ParameterEnd c) = fit_parameter_end ns c
suited_part ns MoreParameters = fit_more_parameters ns
suited_part ns (ParametersOf main) = fit_parameters ns main
suited_part ns IntType = fit_int_type ns
suited_part ns TextsType = fit_texts_type ns
suited_part ns TableInside = fit_table_inside ns
suited_part ns (DeclaredOf b c n from) = fit_declared ns b c n from
suited_part ns (TypedEnd c) = fit_typed_end ns c
suited_part ns (StaticEnd t c) = fit_static_end ns t c
suited_part ns (InfoEnd t k i) = fit_info_end ns t k i
suited_part ns (StaticRest t) = fit_static_rest ns t
suited_part ns (TypedefRest t) = fit_typedef ns t
suited_part ns (ItemOf line) = fit_item ns line
suited_part ns (ItemsOf line) = fit_items ns line

level_low : (l : Level) → suc (level_number l) ≤ 14
level_low level.Product = omega arith
level_low _ = omega arith

low : (w : What) → rank_of w ≤ 14
low (Upto l k a) = level_low l
low Consts = omega arith
low _ = omega arith

pub predictive : IsPredictive C forms tables
predictive = record {
  fits = λ (p : Part). (suited_part p.names p.what).fits;
  opens = λ (p : Part). (suited_part p.names p.what).opening;
  some = some_text C forms (λ (p : Part). cost_of p.what) sample is_sample (λ (p : Part). ways_of p.names p.what);
  low = λ (p : Part). low p.what;
}
