-- Items suit the tables.
use Rattle.std.proofs.Common.{◌≡◌, ℕ, Bool, true, false, not, ◌||◌, ◌&&◌, refl, [], ◌∷◌, codes}
use Rattle.std.specs.List.{list_all}
use Rattle.std.specs.Str.{bytes_eq}
use Rattle.predictive_grammar.proofs.Fits.{never, maybe, nothing}
use Rattle.predictive_grammar.proofs.Sets.{and_first, or_right}
use Rattle.c_lexer.specs.declared.token.Constant.TheVariants as constant
use Rattle.c_lexer.specs.declared.token.TokenKind.TheVariants as k
use Rattle.c_lexer.specs.declared.token.Keyword.TheVariants as keyword
use Rattle.c_lexer.specs.declared.token.Sign.TheVariants as sign
use Rattle.c_tree.specs.declared.names.CType.{CType}
use Rattle.c_tree.specs.declared.unit.Include.TheVariants as include
use Rattle.c_tree.specs.declared.unit.Signature.{Signature}
use Rattle.c_tree.specs.declared.unit.Item.{Item}
use Rattle.c_tree.specs.declared.unit.Item.TheVariants as item
use Rattle.c_tree.specs.Words.{Of, Header, Token, Word}
use Rattle.c_tree.specs.Names.{Names, FunctionName, role_of, declared, with_parameters, with_item, is_int}
use Rattle.c_tree.specs.Types.{is_object, can_be_type}
use Rattle.c_tree.specs.Items.{has_name}
use Rattle.c_tree.specs.Make.{name_at}
use Rattle.c_grammar.specs.Sorts.{Kind, kind, on, Name, Null, File}
use Rattle.c_grammar.specs.Tests.{Set, is, sign_is, word_is, name_with, is_base, begins_type, begins_prefixed, is_key_base, goes_on_type, on_line, begins_include, begins_item, is_int_base, is_char_base, is_other_base, is_main, is_any_name, is_name_of, is_include_word, is_tag, begins_low, is_free_name, is_info_or_type}
use Rattle.c_grammar.specs.Trees.{type_of, no_stars, behind_first, file_in, named_parameter, unnamed_parameter, two_stars, signature, struct_name}
use Rattle.c_grammar.specs.Parts.{What, tree_of, TypeRest, MemberOf, Members, MoreMembers, Fields, ParameterOf, ParameterEnd, MoreParameters, ParametersOf, IntType, TextsType, TableInside, DeclaredOf, TypedEnd, StaticEnd, InfoEnd, StaticRest, TypedefRest, ItemOf, ItemsOf}
use Rattle.c_grammar.specs.Grammar.{here, form, int_behind, texts_behind, parameters_behind, declared_end, variable_behind, static_named, table_behind, info_value, info_named, info_behind, static_type, static_const, typed_item}
use Rattle.c_grammar.specs.Tables.{stop_of}
use Rattle.c_grammar.proofs.Classes.{is_within}
use Rattle.c_grammar.proofs.Bytes.{equal_bytes}
use Rattle.c_grammar.proofs.Samples.{a_token, a_sign, a_word, a_name, a_name_of, a_line_word, a_line_sign, an_unknown, by_unknown}
use Rattle.c_grammar.proofs.Fitting.{Suits, Suited, suited, done, token, token_raw, text, text_under, choice, where_fits, where_raw, widen}

-- a name passes as one
any_name : (ns : Names) (rest : Kind → Bool) (x : Kind) → (is_any_name x && rest x) ≡ true → on ns (is Name) x ≡ true
any_name ns rest x e = and_first (is_any_name x) (rest x) e

include_name : (ns : Names) (x : Kind) → is_include_word x ≡ true → on ns (is Name) x ≡ true
include_name ns x e = any_name ns (λ x. bytes_eq x.bytes (codes "include")) x (and_first (is_name_of (codes "include") x) (not x.begins_line) e)

-- 1. Members, fields and parameters

pub fit_member : (ns : Names) → Suited ns MemberOf
unfolding form
fit_member ns = suited ns MemberOf
    (token ns (is Name) a_name refl (λ n. token ns (sign_is sign.Assign) (a_sign sign.Assign) refl (λ e. text ns refl (λ x. done ns (record { name = name_at n; number = x })) (λ x. refl) (λ x. refl)))) refl (λ a e. e) refl

pub fit_members : (ns : Names) → Suited ns Members
unfolding form
fit_members ns = suited ns Members (text ns refl (λ m. text ns refl (λ ms. done ns (m ∷ ms)) (λ ms. refl) (λ ms. refl)) (λ m. refl) (λ m. refl)) refl (λ a e. e) refl

pub fit_more_members : (ns : Names) → Suited ns MoreMembers
unfolding form
fit_more_members ns = suited ns MoreMembers
    (where_fits ns (sign_is sign.Comma) (a_sign sign.Comma) refl (λ t. text ns refl (λ m. text ns refl (λ ms. done ns (m ∷ ms)) (λ ms. refl) (λ ms. refl)) (λ m. refl) (λ m. refl)) (done ns []) refl refl) refl (λ a e. e) refl

pub fit_fields : (ns : Names) → Suited ns Fields
unfolding form
fit_fields ns = suited ns Fields
    (choice ns (begins_type true) (text ns refl (λ l. text ns refl (λ ls. done ns (l ∷ ls)) (λ ls. refl) (λ ls. refl)) (λ l. refl) (λ l. refl)) (done ns []) refl refl refl refl) refl (λ a e. e) refl

pub fit_parameter : (ns : Names) → Suited ns ParameterOf
unfolding form
fit_parameter ns = suited ns ParameterOf (text ns refl (λ c. text ns refl (λ p. done ns p) (λ p. refl) (λ p. refl)) (λ c. refl) (λ c. refl)) refl (λ a e. e) refl

pub fit_parameter_end : (ns : Names) (c : CType) → Suited ns (ParameterEnd c)
unfolding form
fit_parameter_end ns c = suited ns (ParameterEnd c) (where_fits ns (is Name) a_name refl (λ n. done ns (named_parameter c n)) (done ns (unnamed_parameter c)) refl refl) refl (λ a e. e) refl

pub fit_more_parameters : (ns : Names) → Suited ns MoreParameters
unfolding form
fit_more_parameters ns = suited ns MoreParameters
    (where_fits ns (sign_is sign.Comma) (a_sign sign.Comma) refl (λ t. text ns refl (λ p. text ns refl (λ ps. done ns (p ∷ ps)) (λ ps. refl) (λ ps. refl)) (λ p. refl) (λ p. refl)) (done ns []) refl refl) refl (λ a e. e) refl

-- what follows the type of a parameter
abbrev goes_on_parameter : Set
goes_on_parameter c = is Name c || sign_is sign.Comma c

fit_parameters_behind : (ns : Names) (c : CType) → Suits ns (ParametersOf false) true goes_on_parameter maybe nothing (parameters_behind ns c)
fit_parameters_behind ns c = widen ns (text ns refl (λ p. text ns refl (λ ps. done ns (p ∷ ps)) (λ ps. refl) (λ ps. refl)) (λ p. refl) (λ p. refl)) refl (λ a e. tt) refl

-- what follows its base
abbrev goes_on_base : Set
goes_on_base c = goes_on_type c || goes_on_parameter c

fit_rest_parameters : (ns : Names) (u : Word) (b : Token) (must : Bool) → Suits ns (ParametersOf false) true goes_on_base maybe nothing (here ns (TypeRest u b must) (λ c. parameters_behind ns c))
fit_rest_parameters ns u b true = widen ns (text ns refl (λ c. fit_parameters_behind ns c) (λ c. refl) (λ c a. refl)) refl (λ a e. tt) refl
fit_rest_parameters ns u b false = widen ns (text ns refl (λ c. fit_parameters_behind ns c) (λ c. refl) (λ c a. refl)) refl (λ a e. tt) refl

pub fit_parameters : (ns : Names) (main : Bool) → Suited ns (ParametersOf main)
unfolding form
fit_parameters ns true = suited ns (ParametersOf true)
    (text ns refl (λ c. text ns refl (λ p. token ns (sign_is sign.Comma) (a_sign sign.Comma) refl (λ m. text ns refl (λ d. text ns refl (λ q. done ns (p ∷ q ∷ [])) (λ q. refl) (λ q. refl)) (λ d. refl) (λ d. refl)))
    (λ p. refl) (λ p. tt)) (λ c. refl) (λ c. tt)) refl (λ a e. e) refl
fit_parameters ns false = suited ns (ParametersOf false)
    (where_fits ns (word_is keyword.Void) (a_word keyword.Void) refl
    (λ t. choice ns goes_on_type (text ns refl (λ c. fit_parameters_behind ns c) (λ c. refl) (λ c a. refl)) (done ns []) refl refl refl refl)
    (where_fits ns (word_is keyword.Const) (a_word keyword.Const) refl (λ t. text ns refl (λ u. token ns (is_base true) (a_word keyword.Int) refl (λ b. fit_rest_parameters ns (t ∷ u) b _)) (λ u. refl) (λ u. tt))
    (token ns is_other_base (a_word keyword.Int) refl (λ b. fit_rest_parameters ns [] b false)) refl tt) refl tt) refl (λ a e. e) refl

fit_int_behind : (ns : Names) (u : Word) {moved : Bool} → Suits ns IntType moved is_int_base never is_int_base (int_behind ns u)
fit_int_behind ns u = token ns is_int_base (a_word keyword.Int) refl (λ t. text ns refl (λ v. done ns (type_of u t v no_stars)) (λ v. refl) (λ v. refl))

pub fit_int_type : (ns : Names) → Suited ns IntType
unfolding form
fit_int_type ns = suited ns IntType
    (where_fits ns (word_is keyword.Const) (a_word keyword.Const) refl (λ t. text ns refl (λ u. fit_int_behind ns (t ∷ u)) (λ u. refl) (λ u. tt)) (fit_int_behind ns []) refl tt) refl (λ a e. e) refl

fit_texts_behind : (ns : Names) (u : Word) {moved : Bool} → Suits ns TextsType moved is_char_base never is_char_base (texts_behind ns u)
fit_texts_behind ns u = token ns is_char_base (a_word keyword.Char) refl (λ t. text ns refl (λ v. token ns (sign_is sign.Star) (a_sign sign.Star) refl (λ p. text ns refl (λ x. token ns (sign_is sign.Star) (a_sign sign.Star) refl (λ q.
    text ns refl (λ y. done ns (type_of u t v (two_stars p x q y))) (λ y. refl) (λ y. refl))) (λ x. refl) (λ x. tt))) (λ v. refl) (λ v. tt))

pub fit_texts_type : (ns : Names) → Suited ns TextsType
unfolding form
fit_texts_type ns = suited ns TextsType
    (where_fits ns (word_is keyword.Const) (a_word keyword.Const) refl (λ t. text ns refl (λ u. fit_texts_behind ns (t ∷ u)) (λ u. refl) (λ u. tt)) (fit_texts_behind ns []) refl tt) refl (λ a e. e) refl

-- 2. Functions and variables

-- what follows `)`
abbrev declared_ends : Set
declared_ends c = sign_is sign.Semicolon c || sign_is sign.OpenBrace c

fit_declared_end : (ns : Names) {w : What} (b : Bool) (s : Signature) (f : Item → tree_of w) → is_within (stop_of w) (λ c. true) ≡ true → Suits ns w true declared_ends never nothing (declared_end ns b s f)
fit_declared_end ns true s f e = widen ns
    (where_fits ns (sign_is sign.Semicolon) (a_sign sign.Semicolon) refl (λ e. done ns (f (item.Prototype s)))
    (text_under ns (with_parameters (declared s.name FunctionName ∷ ns) s.parameters) (record { first = λ x. refl; stop = λ x. refl; opens = λ x. refl }) refl (λ b. done ns (f (item.Function (record { signature = s; body = b })))) (λ b. refl) (λ b. e))
    refl tt) refl (λ a e. e) refl
fit_declared_end ns false s f e = widen ns (token ns (sign_is sign.Semicolon) (a_sign sign.Semicolon) refl (λ e. done ns (f (item.Prototype s)))) refl (λ a e. e) refl

pub fit_declared : (ns : Names) (b : Bool) (c : CType) (n : Token) (from : ℕ) → Suited ns (DeclaredOf b c n from)
unfolding form
fit_declared ns b c n from = suited ns (DeclaredOf b c n from)
    (token ns (sign_is sign.OpenParen) (a_sign sign.OpenParen) refl (λ o. text ns refl (λ ps. token ns (sign_is sign.CloseParen) (a_sign sign.CloseParen) refl
    (λ s. fit_declared_end ns (list_all has_name ps) (signature b c n ps from s) (λ i. i) refl)) (λ ps. refl) (λ ps. tt))) refl (λ a e. e) refl

free_name : (ns : Names) (b : Bool) (x : Kind) → is_free_name b x ≡ true → on ns (is Name) x ≡ true
free_name ns b x e = any_name ns (λ x. not (is_main x.bytes) || b) x e

pub fit_typed_end : (ns : Names) (c : CType) → Suited ns (TypedEnd c)
unfolding form
fit_typed_end ns c = suited ns (TypedEnd c)
    (token_raw ns (is_free_name (is_int ns c)) (is Name) a_name refl (free_name ns (is_int ns c)) (λ n. text ns refl (λ i. done ns i) (λ i. refl) (λ i. refl))) refl (λ a e. e) refl

-- what follows the name of a static item
abbrev goes_on_static : Set
goes_on_static c = sign_is sign.Assign c || sign_is sign.OpenParen c

fit_variable : (ns : Names) {w : What} (c : CType) (n : Token) (f : Item → tree_of w) → Suits ns w true (begins_prefixed true) never (begins_prefixed true) (variable_behind ns c n f)
fit_variable ns c n f = widen ns (text ns refl (λ x. token ns (sign_is sign.Semicolon) (a_sign sign.Semicolon) refl (λ e. done ns (f (item.Variable (record { declared = c; name = name_at n; value = x }))))) (λ x. refl) (λ x. tt)) refl (λ a e. e) refl

fit_static_named : (ns : Names) (t : Token) (c : CType) (n : Token) (object main : Bool) → Suits ns (StaticEnd t c) true goes_on_static never nothing (static_named ns t c n object main)
fit_static_named ns t c n true false = widen ns
    (where_fits ns (sign_is sign.Assign) (a_sign sign.Assign) refl (λ a. fit_variable ns c n (λ i. i)) (text ns refl (λ i. done ns i) (λ i. refl) (λ i. refl)) refl tt) refl (λ a e. e) refl
fit_static_named ns t c n true true = widen ns (token ns (sign_is sign.Assign) (a_sign sign.Assign) refl (λ a. fit_variable ns c n (λ i. i))) refl (λ a e. e) refl
fit_static_named ns t c n false main = widen ns (text ns refl (λ i. done ns i) (λ i. refl) (λ i. refl)) refl (λ a e. e) refl

pub fit_static_end : (ns : Names) (t : Token) (c : CType) → Suited ns (StaticEnd t c)
unfolding form
fit_static_end ns t c = suited ns (StaticEnd t c)
    (token_raw ns (is_free_name (is_object c)) (is Name) a_name refl (free_name ns (is_object c)) (λ n. fit_static_named ns t c n (is_object c) (is_main n.bytes))) refl (λ a e. e) refl

pub fit_table_inside : (ns : Names) → Suited ns TableInside
unfolding form
fit_table_inside ns = suited ns TableInside
    (token ns (sign_is sign.OpenParen) (a_sign sign.OpenParen) refl (λ p. token_raw ns (is_name_of (codes "GInterfaceInitFunc")) (is Name) (a_name_of (codes "GInterfaceInitFunc")) refl
    (any_name ns (λ x. bytes_eq x.bytes (codes "GInterfaceInitFunc"))) (λ y. token ns (sign_is sign.CloseParen) (a_sign sign.CloseParen) refl (λ q. token ns (is Name) a_name refl (λ f.
    token ns (sign_is sign.Comma) (a_sign sign.Comma) refl (λ d. token ns (is Null) (a_token (Of (k.Constant constant.Null))) refl (λ x. token ns (sign_is sign.Comma) (a_sign sign.Comma) refl
    (λ m. token ns (is Null) (a_token (Of (k.Constant constant.Null))) refl (λ z. done ns f))))))))) refl (λ a e. e) refl

fit_table : (ns : Names) {w : What} (n : Token) (f : Item → tree_of w) {moved : Bool} → Suits ns w moved (sign_is sign.OpenBrace) never (sign_is sign.OpenBrace) (table_behind ns n f)
fit_table ns n f = token ns (sign_is sign.OpenBrace) (a_sign sign.OpenBrace) refl (λ l. text ns refl (λ g. token ns (sign_is sign.CloseBrace) (a_sign sign.CloseBrace) refl (λ r.
    token ns (sign_is sign.Semicolon) (a_sign sign.Semicolon) refl (λ e. done ns (f (item.InterfaceTable (record { name = name_at n; init = name_at g })))))) (λ g. refl) (λ g. tt))

-- what follows `=`
abbrev info_begins : Set
info_begins c = sign_is sign.OpenBrace c || begins_prefixed true c

fit_info_value : (ns : Names) {w : What} (c : CType) (n : Token) (f : Item → tree_of w) → Suits ns w true info_begins never nothing (info_value ns c n f)
fit_info_value ns c n f = widen ns (choice ns (sign_is sign.OpenBrace) (fit_table ns n f) (fit_variable ns c n f) refl refl refl tt) refl (λ a e. e) refl

fit_info_named : (ns : Names) (t k i n : Token) (c : CType) (object main : Bool) → Suits ns (InfoEnd t k i) true goes_on_static never nothing (info_named ns t k i n c object main)
fit_info_named ns t k i n c true false = widen ns
    (where_fits ns (sign_is sign.Assign) (a_sign sign.Assign) refl (λ a. fit_info_value ns c n (λ i. i)) (text ns refl (λ i. done ns i) (λ i. refl) (λ i. refl)) refl tt) refl (λ a e. e) refl
fit_info_named ns t k i n c true true = widen ns (token ns (sign_is sign.Assign) (a_sign sign.Assign) refl (λ a. fit_info_value ns c n (λ i. i))) refl (λ a e. e) refl
fit_info_named ns t k i n c false main = widen ns (text ns refl (λ i. done ns i) (λ i. refl) (λ i. refl)) refl (λ a e. e) refl

-- what follows `static const GInterfaceInfo`
abbrev goes_on_info : Set
goes_on_info c = is Name c || goes_on_type c

fit_info_behind : (ns : Names) (t k i : Token) (c : CType) (b : Bool) → Suits ns (InfoEnd t k i) false goes_on_info never nothing (info_behind ns t k i c b)
fit_info_behind ns t k i c true = widen ns
    (choice ns goes_on_type (text ns refl (λ d. text ns refl (λ i. done ns i) (λ i. refl) (λ i. refl)) (λ d. refl) (λ d. tt))
    (token_raw ns (is_free_name (is_object c)) (is Name) a_name refl (free_name ns (is_object c)) (λ n. fit_info_named ns t k i n c (is_object c) (is_main n.bytes))) refl refl refl tt) refl (λ a e. e) refl
fit_info_behind ns t k i c false = widen ns (token ns (is Name) a_name refl (λ n. token ns (sign_is sign.Assign) (a_sign sign.Assign) refl (λ a. fit_table ns n (λ i. i)))) refl (λ a e. e) refl

pub fit_info_end : (ns : Names) (t k i : Token) → Suited ns (InfoEnd t k i)
unfolding form
fit_info_end ns t k i = suited ns (InfoEnd t k i) (fit_info_behind ns t k i (type_of (k ∷ []) i [] no_stars) (can_be_type true (role_of ns i.bytes))) refl (λ a e. e) refl

fit_static_type : (ns : Names) (t : Token) (u : Word) (b : Token) → Suits ns (StaticRest t) true goes_on_info never nothing (static_type ns t u b)
fit_static_type ns t u b = widen ns (text ns refl (λ c. text ns refl (λ i. done ns i) (λ i. refl) (λ i. refl)) (λ c. refl) (λ c. tt)) refl (λ a e. e) refl

fit_static_const : (ns : Names) (t k i : Token) (b : Bool) → Suits ns (StaticRest t) true goes_on_info never nothing (static_const ns t k i b)
fit_static_const ns t k i true = widen ns (text ns refl (λ i. done ns i) (λ i. refl) (λ i. refl)) refl (λ a e. e) refl
fit_static_const ns t k i false = fit_static_type ns t (k ∷ []) i

info_or_type_unknown : (ns : Names) → is_info_or_type ns (kind (an_unknown ns)) ≡ true
info_or_type_unknown ns = or_right (bytes_eq (an_unknown ns).bytes (codes "GInterfaceInfo")) (on ns (name_with (can_be_type true)) (kind (an_unknown ns))) (by_unknown ns (name_with (can_be_type true)) refl)

info_name : (ns : Names) (x : Kind) → is_info_or_type ns x ≡ true → on ns (is Name) x ≡ true
info_name ns x e = any_name ns (λ x. bytes_eq x.bytes (codes "GInterfaceInfo") || on ns (name_with (can_be_type true)) x) x e

pub fit_static_rest : (ns : Names) (t : Token) → Suited ns (StaticRest t)
unfolding form
fit_static_rest ns t = suited ns (StaticRest t)
    (where_fits ns (word_is keyword.Const) (a_word keyword.Const) refl
    (λ k. where_raw ns (is_info_or_type ns) (is Name) (an_unknown ns) (info_or_type_unknown ns) (info_name ns) (λ i. fit_static_const ns t k i (bytes_eq i.bytes (codes "GInterfaceInfo")))
    (where_fits ns (word_is keyword.Const) (a_word keyword.Const) refl (λ x. text ns refl (λ u. token ns (is_base true) (a_word keyword.Int) refl (λ b. fit_static_type ns t (k ∷ x ∷ u) b)) (λ u. refl) (λ u. tt))
    (token ns is_key_base (a_word keyword.Int) refl (λ b. fit_static_type ns t (k ∷ []) b)) refl tt) refl)
    (token ns (is_base true) (a_word keyword.Int) refl (λ b. fit_static_type ns t [] b)) refl tt) refl (λ a e. e) refl

tag_name : (ns : Names) (x : Kind) → is_tag x ≡ true → on ns (is Name) x ≡ true
tag_name ns x e = any_name ns (λ x. begins_low x.bytes) x e

pub fit_typedef : (ns : Names) (t : Token) → Suited ns (TypedefRest t)
unfolding form
fit_typedef ns t = suited ns (TypedefRest t)
    (where_fits ns (word_is keyword.Struct) (a_word keyword.Struct) refl (λ s. token_raw ns is_tag (is Name) (a_name_of (95 ∷ [])) refl (tag_name ns) (λ g.
    token_raw ns (is_name_of (behind_first g.bytes)) (is Name) (a_name_of (behind_first g.bytes)) (equal_bytes (behind_first g.bytes) (behind_first g.bytes) refl) (any_name ns (λ x. bytes_eq x.bytes (behind_first g.bytes)))
    (λ n. token ns (sign_is sign.Semicolon) (a_sign sign.Semicolon) refl (λ e. done ns (item.StructType (name_at n))))))
    (where_fits ns (word_is keyword.Enum) (a_word keyword.Enum) refl (λ s. token ns (sign_is sign.OpenBrace) (a_sign sign.OpenBrace) refl (λ l. text ns refl (λ ms. token ns (sign_is sign.CloseBrace) (a_sign sign.CloseBrace) refl
    (λ r. token ns (is Name) a_name refl (λ n. token ns (sign_is sign.Semicolon) (a_sign sign.Semicolon) refl (λ e. done ns (item.Enumeration (record { members = ms; name = name_at n })))))) (λ ms. refl) (λ ms. tt)))
    (text ns refl (λ r. token ns (sign_is sign.OpenParen) (a_sign sign.OpenParen) refl (λ o. token ns (sign_is sign.Star) (a_sign sign.Star) refl (λ s. token ns (is Name) a_name refl (λ n.
    token ns (sign_is sign.CloseParen) (a_sign sign.CloseParen) refl (λ c. token ns (sign_is sign.OpenParen) (a_sign sign.OpenParen) refl (λ p. text ns refl (λ ps. token ns (sign_is sign.CloseParen) (a_sign sign.CloseParen) refl
    (λ q. token ns (sign_is sign.Semicolon) (a_sign sign.Semicolon) refl (λ e. done ns (item.FunctionType (signature false r n ps t.start q))))) (λ ps. refl) (λ ps. tt))))))) (λ r. refl) (λ r. tt)) refl tt) refl tt) refl (λ a e. e) refl

-- 3. Items

fit_typed_item : (ns : Names) (line : Bool) (u : Word) (b : Token) → Suits ns (ItemOf line) true goes_on_info never nothing (typed_item ns u b)
fit_typed_item ns line u b = widen ns (text ns refl (λ c. text ns refl (λ i. done ns i) (λ i. refl) (λ i. refl)) (λ c. refl) (λ c. tt)) refl (λ a e. e) refl

pub fit_item : (ns : Names) (line : Bool) → Suited ns (ItemOf line)
unfolding form
fit_item ns true = suited ns (ItemOf true)
    (where_fits ns begins_include (a_line_sign sign.Hash) refl (λ t. token_raw ns is_include_word (is Name) (a_name_of (codes "include")) refl (include_name ns) (λ i.
    token ns (is File) (a_token (Header include.Glib)) refl (λ h. done ns (item.Include (file_in h.terminal)))))
    (where_fits ns (on_line true (word_is keyword.Typedef)) (a_line_word keyword.Typedef) refl (λ t. text ns refl (λ i. done ns i) (λ i. refl) (λ i. refl))
    (where_fits ns (on_line true (word_is keyword.Struct)) (a_line_word keyword.Struct) refl (λ s. token_raw ns is_tag (is Name) (a_name_of (95 ∷ [])) refl (tag_name ns) (λ g. token ns (sign_is sign.OpenBrace) (a_sign sign.OpenBrace) refl (λ l.
    text ns refl (λ fs. token ns (sign_is sign.CloseBrace) (a_sign sign.CloseBrace) refl (λ r. token ns (sign_is sign.Semicolon) (a_sign sign.Semicolon) refl (λ e.
    done ns (item.Struct (record { name = struct_name g; fields = fs }))))) (λ fs. refl) (λ fs. tt))))
    (where_fits ns (on_line true (word_is keyword.Static)) (a_line_word keyword.Static) refl (λ t. text ns refl (λ i. done ns i) (λ i. refl) (λ i. refl))
    (where_fits ns (on_line true (word_is keyword.Const)) (a_line_word keyword.Const) refl (λ t. text ns refl (λ u. token ns (is_base true) (a_word keyword.Int) refl (λ b. fit_typed_item ns true (t ∷ u) b)) (λ u. refl) (λ u. tt))
    (token ns (on_line true (is_base true)) (a_line_word keyword.Int) refl (λ b. fit_typed_item ns true [] b)) refl tt) refl tt) refl tt) refl tt) refl tt) refl (λ a e. e) refl
fit_item ns false = suited ns (ItemOf false)
    (where_fits ns begins_include (a_line_sign sign.Hash) refl (λ t. token_raw ns is_include_word (is Name) (a_name_of (codes "include")) refl (include_name ns) (λ i.
    token ns (is File) (a_token (Header include.Glib)) refl (λ h. done ns (item.Include (file_in h.terminal)))))
    (where_fits ns (on_line false (word_is keyword.Typedef)) (a_line_word keyword.Typedef) refl (λ t. text ns refl (λ i. done ns i) (λ i. refl) (λ i. refl))
    (where_fits ns (on_line false (word_is keyword.Struct)) (a_line_word keyword.Struct) refl (λ s. token_raw ns is_tag (is Name) (a_name_of (95 ∷ [])) refl (tag_name ns) (λ g. token ns (sign_is sign.OpenBrace) (a_sign sign.OpenBrace) refl (λ l.
    text ns refl (λ fs. token ns (sign_is sign.CloseBrace) (a_sign sign.CloseBrace) refl (λ r. token ns (sign_is sign.Semicolon) (a_sign sign.Semicolon) refl (λ e.
    done ns (item.Struct (record { name = struct_name g; fields = fs }))))) (λ fs. refl) (λ fs. tt))))
    (where_fits ns (on_line false (word_is keyword.Static)) (a_line_word keyword.Static) refl (λ t. text ns refl (λ i. done ns i) (λ i. refl) (λ i. refl))
    (where_fits ns (on_line false (word_is keyword.Const)) (a_line_word keyword.Const) refl (λ t. text ns refl (λ u. token ns (is_base true) (a_word keyword.Int) refl (λ b. fit_typed_item ns false (t ∷ u) b)) (λ u. refl) (λ u. tt))
    (token ns (on_line false (is_base true)) (a_line_word keyword.Int) refl (λ b. fit_typed_item ns false [] b)) refl tt) refl tt) refl tt) refl tt) refl tt) refl (λ a e. e) refl

pub fit_items : (ns : Names) (line : Bool) → Suited ns (ItemsOf line)
unfolding form
fit_items ns true = suited ns (ItemsOf true)
    (choice ns (begins_item true) (text ns refl (λ i. text_under ns (with_item ns i) (record { first = λ x. refl; stop = λ x. refl; opens = λ x. refl }) refl (λ is. done ns (i ∷ is)) (λ is. refl) (λ is. refl)) (λ i. refl) (λ i. refl))
    (done ns []) refl refl refl refl) refl (λ a e. e) refl
fit_items ns false = suited ns (ItemsOf false)
    (choice ns (begins_item false) (text ns refl (λ i. text_under ns (with_item ns i) (record { first = λ x. refl; stop = λ x. refl; opens = λ x. refl }) refl (λ is. done ns (i ∷ is)) (λ is. refl) (λ is. refl)) (λ i. refl) (λ i. refl))
    (done ns []) refl refl refl refl) refl (λ a e. e) refl
