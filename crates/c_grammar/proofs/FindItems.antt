-- Items and units are read by their forms.
use Rattle.std.proofs.Common.{◌≡◌, ℕ, suc, ◌==◌, Bool, true, false, not, ◌&&◌, ◌||◌, if◌then◌else◌, List, [], ◌∷◌, ◌++◌, codes, refl, sym, ap, subst, ◌∙◌, append-nil, append_assoc, true≢false, eqb-true, arith}
use Rattle.std.specs.List.{list_all}
use Rattle.std.specs.Str.{bytes_eq}
use Rattle.predictive_grammar.proofs.Sets.{and_first, and_second, or_left, or_right}
use Rattle.c_lexer.specs.declared.token.Keyword.TheVariants as keyword
use Rattle.c_lexer.specs.declared.token.Sign.TheVariants as sign
use Rattle.c_tree.specs.declared.names.Base.{Base}
use Rattle.c_tree.specs.declared.names.CType.{CType}
use Rattle.c_tree.specs.declared.code.Expr.{Expr}
use Rattle.c_tree.specs.declared.code.Local.{Local}
use Rattle.c_tree.specs.declared.code.Block.{Block}
use Rattle.c_tree.specs.declared.unit.Include.{Include}
use Rattle.c_tree.specs.declared.unit.Signature.{Signature}
use Rattle.c_tree.specs.declared.unit.Member.{Member}
use Rattle.c_tree.specs.declared.unit.Parameter.{Parameter}
use Rattle.c_tree.specs.declared.unit.Item.{Item}
use Rattle.c_tree.specs.declared.unit.Item.TheVariants as item
use Rattle.c_tree.specs.Words.{Terminal, Header, Token, Word, IsSign, IsWord, IsName, IsNamed, BeginsLine, extent, start_of, end_of}
use Rattle.c_tree.specs.Names.{Names, FunctionName, role_of, declared, with_parameters, is_int, is_texts, is_an_int, is_a_char, meaning_of_base, are_arguments, not_static}
use Rattle.c_tree.specs.Types.{Consts as ReadsConsts, no_const, more_const, Stars as ReadsStars, no_star, more_stars, BaseIs, void_is, int_is, char_is, named_is, ReadsType, type_is, is_object, is_void_base, can_be_type}
use Rattle.c_tree.specs.Make.{name_at}
use Rattle.c_tree.specs.Items.{ReadsMember, member_is, ReadsMoreMembers, no_member, more_members, ReadsFields, no_field, more_fields, ReadsParameter, unnamed, named, ReadsMoreParameters, no_parameter, more_parameters, ReadsParameters, none_taken, some_taken, ReadsStatic, not_static as no_static, is_static, ReadsSignature, signature_is, has_name, IsTag, IsNull, ReadsItem, includes, struct_type, struct_is, enum_is, function_type, prototype, static_variable, interface_table, function_is, is_include, ReadsItems, no_item, more_items}
use Rattle.c_grammar.specs.Sorts.{kind, on, Null, File}
use Rattle.c_grammar.specs.Tests.{Set, is, word_is, is_base, is_key_base, on_line, is_int_base, is_char_base, is_other_base, is_main, is_free_name, is_info_or_type, is_name_of, begins_low}
use Rattle.c_grammar.specs.Trees.{base_in, is_void, type_of, no_stars, behind_first, file_in, named_parameter, unnamed_parameter, two_stars, signature, struct_name}
use Rattle.c_grammar.specs.Parts.{What, Starred, tree_of, at, TypeMore, Value, BlockOf, MemberOf, Members, MoreMembers, Fields, ParameterOf, ParameterEnd, MoreParameters, ParametersOf, IntType, TextsType, TableInside, DeclaredOf, TypedEnd, StaticEnd, InfoEnd, StaticRest, TypedefRest, ItemOf, ItemsOf}
use Rattle.c_grammar.specs.Grammar.{form, int_behind, texts_behind, parameters_behind, declared_end, variable_behind, static_named, table_behind, info_value, info_named, info_behind, static_type, static_const}
use Rattle.c_grammar.proofs.Bytes.{equal_bytes}
use Rattle.c_grammar.proofs.Told.{Told, gave, took, got, one, other, last, Texts, text_of}
use Rattle.c_grammar.proofs.Tokens.{passes, sign_passes, word_passes, name_passes, name_with_passes}
use Rattle.c_grammar.proofs.Meaning.{IfMust}
use Rattle.c_grammar.proofs.FindTypes.{FoundStars, find_consts, find_stars, find_base, find_rest, find_type, same_type, more_const_text, more_star_text}
use Rattle.c_grammar.proofs.SoundTypes.{some_star}
use Rattle.c_grammar.proofs.FindValues.{value_text, find}
use Rattle.c_grammar.proofs.FindStatements.{find_local, find_number, find_block}

text_at : {ns : Names} {q : What} {x : tree_of q} {u w : Word} → u ≡ w → Texts (at ns q) u x → Texts (at ns q) w x
text_at {ns = ns} {q = q} {x = x} e d = subst (λ (z : Word). Texts (at ns q) z x) e d

no_must : {b : Bool} → IfMust false b
no_must = λ e. absurd (true≢false (sym e))

-- 1. Members, fields and parameters

find_member : (ns : Names) {w : Word} {m : Member} → ReadsMember w m → Texts (at ns MemberOf) w m
unfolding form
find_member ns (member_is {n = n} {e = e} {x = x} i j d) = text_of ns MemberOf (took n (name_passes ns n i) (took e (sign_passes ns sign.Assign e j) (last x (find_number ns d) (gave _))))

find_more_members : (ns : Names) {w : Word} {ms : List Member} → ReadsMoreMembers w ms → Texts (at ns MoreMembers) w ms
unfolding form
find_more_members ns no_member = text_of ns MoreMembers (other (gave []))
find_more_members ns (more_members {t = t} {m = m} {ms = ms} e d f) = text_of ns MoreMembers (one (took t (sign_passes ns sign.Comma t e) (got m (find_member ns d) (last ms (find_more_members ns f) (gave (m ∷ ms))))))

members_text : (ns : Names) {u w : Word} {m : Member} {ms : List Member} → ReadsMember u m → ReadsMoreMembers w ms → Texts (at ns Members) (u ++ w) (m ∷ ms)
unfolding form
members_text ns {m = m} {ms = ms} d f = text_of ns Members (got m (find_member ns d) (last ms (find_more_members ns f) (gave (m ∷ ms))))

find_fields : (ns : Names) {w : Word} {ls : List Local} → ReadsFields ns w ls → Texts (at ns Fields) w ls
unfolding form
find_fields ns no_field = text_of ns Fields (other (gave []))
find_fields ns (more_fields {l = l} {ls = ls} d f) = text_of ns Fields (one (got l (find_local ns d) (last ls (find_fields ns f) (gave (l ∷ ls)))))

no_name_text : (ns : Names) (c : CType) → Texts (at ns (ParameterEnd c)) [] (unnamed_parameter c)
unfolding form
no_name_text ns c = text_of ns (ParameterEnd c) (other (gave _))

name_text : (ns : Names) (c : CType) (n : Token) → IsName n → Texts (at ns (ParameterEnd c)) (n ∷ []) (named_parameter c n)
unfolding form
name_text ns c n i = text_of ns (ParameterEnd c) (one (took n (name_passes ns n i) (gave _)))

find_parameter : (ns : Names) {w : Word} {p : Parameter} → ReadsParameter ns w p → Texts (at ns ParameterOf) w p
unfolding form
find_parameter ns (unnamed {w = w} {c = c} d o) = text_at {q = ParameterOf} (append-nil w) (text_of ns ParameterOf (got c (find_type ns true true d (λ i. o)) (last (unnamed_parameter c) (no_name_text ns c) (gave _))))
find_parameter ns (named n {c = c} d o i) = text_of ns ParameterOf (got c (find_type ns true true d (λ i. o)) (last (named_parameter c n) (name_text ns c n i) (gave _)))

find_more_parameters : (ns : Names) {w : Word} {ps : List Parameter} → ReadsMoreParameters ns w ps → Texts (at ns MoreParameters) w ps
unfolding form
find_more_parameters ns no_parameter = text_of ns MoreParameters (other (gave []))
find_more_parameters ns (more_parameters {t = t} {p = p} {ps = ps} e d f) =
    text_of ns MoreParameters (one (took t (sign_passes ns sign.Comma t e) (got p (find_parameter ns d) (last ps (find_more_parameters ns f) (gave (p ∷ ps))))))

-- 2. The types of parameters, by what they begin with

-- the word of a type behind `const`
const_word : (t0 : Token) (u : Word) (t : Token) (v w z : Word) → t0 ∷ (u ++ (t ∷ ((v ++ w) ++ z))) ≡ (t0 ∷ u ++ t ∷ v ++ w) ++ z
const_word t0 u t v w z = ap (λ (y : Word). t0 ∷ y) (sym (ap (λ (y : Word). y ++ z) (append_assoc u (t ∷ v) w) ∙ append_assoc u (t ∷ (v ++ w)) z))

parameter_void : (ns : Names) (t : Token) (v w z : Word) (n : ℕ) {b : Bool} {ps : List Parameter} → IsWord t keyword.Void → ReadsConsts v b → FoundStars ns w n → not (n == 0) ≡ true
    → Told Texts (at ns (ParametersOf false)) (parameters_behind ns (type_of [] t v (record { word = w; stars = n }))) z ps → Texts (at ns (ParametersOf false)) (t ∷ ((v ++ w) ++ z)) ps
unfolding form
parameter_void ns t v w z n e c s m d =
    text_of ns (ParametersOf false) (one (took t (word_passes ns keyword.Void t e) (one (got (type_of [] t v (record { word = w; stars = n })) (find_rest ns [] v w t n true c s (λ i. m)) d))))

parameter_base : (ns : Names) (t : Token) (v w z : Word) (n : ℕ) {b : Bool} {ps : List Parameter} → on ns is_other_base (kind t) ≡ true → ReadsConsts v b → FoundStars ns w n
    → Told Texts (at ns (ParametersOf false)) (parameters_behind ns (type_of [] t v (record { word = w; stars = n }))) z ps → Texts (at ns (ParametersOf false)) (t ∷ ((v ++ w) ++ z)) ps
unfolding form
parameter_base ns t v w z n e c s d =
    text_of ns (ParametersOf false) (other (other (took t e (got (type_of [] t v (record { word = w; stars = n })) (find_rest ns [] v w t n false c s no_must) d))))

parameter_const : (ns : Names) (t0 : Token) (u : Word) (t : Token) (v w z : Word) (n : ℕ) {a b : Bool} {ps : List Parameter} → IsWord t0 keyword.Const → ReadsConsts u a → on ns (is_base true) (kind t) ≡ true → ReadsConsts v b → FoundStars ns w n
    → IfMust (is_void t) (not (n == 0)) → Told Texts (at ns (ParametersOf false)) (parameters_behind ns (type_of (t0 ∷ u) t v (record { word = w; stars = n }))) z ps
    → Texts (at ns (ParametersOf false)) (t0 ∷ (u ++ (t ∷ ((v ++ w) ++ z)))) ps
unfolding form
parameter_const ns t0 u t v w z n e f g c s m d =
    text_of ns (ParametersOf false) (other (one (took t0 (word_passes ns keyword.Const t0 e) (got u (find_consts ns f).text (took t g
    (got (type_of (t0 ∷ u) t v (record { word = w; stars = n })) (find_rest ns (t0 ∷ u) v w t n (is_void t) c s m) d))))))

-- `void` has a star
void_star : (v : Bool) (n : ℕ) → not (v && n == 0) ≡ true → IfMust v (not (n == 0))
void_star true n m i = m
void_star false n m i = absurd (true≢false (sym i))

start_base : (ns : Names) (t : Token) (v w z : Word) (n : ℕ) {x : Base} {b : Bool} {ps : List Parameter} → BaseIs ns true t x → ReadsConsts v b → FoundStars ns w n → not (is_void_base x && n == 0) ≡ true
    → Told Texts (at ns (ParametersOf false)) (parameters_behind ns (type_of [] t v (record { word = w; stars = n }))) z ps → Texts (at ns (ParametersOf false)) (t ∷ ((v ++ w) ++ z)) ps
start_base ns t v w z n (void_is e) c s m d = parameter_void ns t v w z n e c s m d
start_base ns t v w z n (int_is e) c s m d = parameter_base ns t v w z n (passes ns is_other_base t e refl) c s d
start_base ns t v w z n (char_is e) c s m d = parameter_base ns t v w z n (passes ns is_other_base t e refl) c s d
start_base ns t v w z n (named_is e h) c s m d = parameter_base ns t v w z n (passes ns is_other_base t e h) c s d

start_parameter : (ns : Names) (u v w z : Word) (t : Token) (n : ℕ) {x : Base} {a b : Bool} {ps : List Parameter} → ReadsConsts u a → BaseIs ns true t x → ReadsConsts v b → FoundStars ns w n → not (is_void_base x && n == 0) ≡ true
    → Told Texts (at ns (ParametersOf false)) (parameters_behind ns (type_of u t v (record { word = w; stars = n }))) z ps → Texts (at ns (ParametersOf false)) ((u ++ t ∷ v ++ w) ++ z) ps
start_parameter ns u v w z t n no_const b c s m d = start_base ns t v w z n b c s m d
start_parameter ns u v w z t n (more_const {t = t0} {w = u0} e f) b c s m d =
    let h = find_base ns true b in text_at {q = ParametersOf false} (const_word t0 u0 t v w z)
    (parameter_const ns t0 u0 t v w z n e f h.passes c s (void_star (is_void t) n (subst (λ (x : Base). not (is_void_base x && n == 0) ≡ true) h.same m)) d)

first_parameter : (ns : Names) (z : Word) {y : Word} {c : CType} {ps : List Parameter} → ReadsType ns true y c → is_object c ≡ true → Told Texts (at ns (ParametersOf false)) (parameters_behind ns c) z ps → Texts (at ns (ParametersOf false)) (y ++ z) ps
first_parameter ns z {ps = ps} (type_is {t = t} {u = u} {v = v} {w = w} {n = n} d b e s) o f =
    start_parameter ns u v w z t n d b e (find_stars ns s) o
    (subst (λ (c : CType). Told Texts (at ns (ParametersOf false)) (parameters_behind ns c) z ps) (sym (same_type u v w t n (find_base ns true b).same (find_consts ns d).some (find_consts ns e).some)) f)

void_text : (ns : Names) (t : Token) → IsWord t keyword.Void → Texts (at ns (ParametersOf false)) (t ∷ []) []
unfolding form
void_text ns t e = text_of ns (ParametersOf false) (one (took t (word_passes ns keyword.Void t e) (other (gave []))))

parameter_list : (ns : Names) {u w : Word} {p : Parameter} {ps : List Parameter} → ReadsParameter ns u p → Texts (at ns MoreParameters) w ps → Texts (at ns (ParametersOf false)) (u ++ w) (p ∷ ps)
parameter_list ns {w = w} {p = p} {ps = ps} (unnamed {c = c} d o) f = first_parameter ns w d o (got (unnamed_parameter c) (no_name_text ns c) (last ps f (gave (p ∷ ps))))
parameter_list ns {w = w} {p = p} {ps = ps} (named n {w = y} {c = c} d o i) f =
    text_at {q = ParametersOf false} (sym (append_assoc y (n ∷ []) w)) (first_parameter ns (n ∷ w) d o (got (named_parameter c n) (name_text ns c n i) (last ps f (gave (p ∷ ps)))))

-- 3. The parameters of `main`

int_base : (ns : Names) {t : Token} {x : Base} → BaseIs ns true t x → is_an_int (meaning_of_base ns x) ≡ true → on ns is_int_base (kind t) ≡ true
int_base ns (void_is e) h = absurd (true≢false (sym h))
int_base ns {t = t} (int_is e) h = passes ns is_int_base t e refl
int_base ns (char_is e) h = absurd (true≢false (sym h))
int_base ns {t = t} (named_is e r) h = passes ns is_int_base t e h

char_base : (ns : Names) {t : Token} {x : Base} → BaseIs ns true t x → is_a_char (meaning_of_base ns x) ≡ true → on ns is_char_base (kind t) ≡ true
char_base ns (void_is e) h = absurd (true≢false (sym h))
char_base ns (int_is e) h = absurd (true≢false (sym h))
char_base ns {t = t} (char_is e) h = passes ns is_char_base t e refl
char_base ns {t = t} (named_is e r) h = passes ns is_char_base t e h

pub and_true : {a b : Bool} → a ≡ true → b ≡ true → (a && b) ≡ true
and_true {a} {b} e f = ap (λ (x : Bool). x && b) e ∙ f

int_told : (ns : Names) (u : Word) (t : Token) {v : Word} {b : Bool} → on ns is_int_base (kind t) ≡ true → ReadsConsts v b → Told Texts (at ns IntType) (int_behind ns u) (t ∷ v) (type_of u t v no_stars)
int_told ns u t {v = v} e c = took t e (last v (find_consts ns c).text (gave _))

int_text : (ns : Names) (u v : Word) (t : Token) {a b : Bool} → ReadsConsts u a → on ns is_int_base (kind t) ≡ true → ReadsConsts v b → Texts (at ns IntType) (u ++ (t ∷ v)) (type_of u t v no_stars)
unfolding form
int_text ns u v t no_const e c = text_of ns IntType (other (int_told ns [] t e c))
int_text ns u v t (more_const {t = t0} {w = u0} i d) e c = text_of ns IntType (one (took t0 (word_passes ns keyword.Const t0 i) (got u0 (find_consts ns d).text (int_told ns (t0 ∷ u0) t e c))))

find_int : (ns : Names) {w : Word} {c : CType} → ReadsType ns true w c → is_int ns c ≡ true → Texts (at ns IntType) w c
find_int ns (type_is {t = t} {u = u} {v = v} {x = x} d b e no_star) m =
    subst (λ (y : CType). Texts (at ns IntType) (u ++ t ∷ v ++ []) y) (same_type u v [] t 0 (find_base ns true b).same (find_consts ns d).some (find_consts ns e).some)
    (text_at {q = IntType} (sym (append-nil (u ++ (t ∷ v)))) (int_text ns u v t d (int_base ns b (and_first (is_an_int (meaning_of_base ns x)) true m)) e))
find_int ns (type_is {x = x} d b e (more_stars {n = n} f g h)) m = absurd (omega (arith, eqb-true (suc n) 0 (and_second (is_an_int (meaning_of_base ns x)) (suc n == 0) m)))

texts_told : (ns : Names) (u : Word) (t p q : Token) {v x y : Word} {a b c : Bool} → on ns is_char_base (kind t) ≡ true → ReadsConsts v a → IsSign p sign.Star → ReadsConsts x b → IsSign q sign.Star → ReadsConsts y c
    → Told Texts (at ns TextsType) (texts_behind ns u) (t ∷ (v ++ (p ∷ (x ++ (q ∷ (y ++ [])))))) (type_of u t v (two_stars p x q y))
texts_told ns u t p q {v = v} {x = x} {y = y} e c f g h i =
    took t e (got v (find_consts ns c).text (took p (sign_passes ns sign.Star p f) (got x (find_consts ns g).text (took q (sign_passes ns sign.Star q h) (got y (find_consts ns i).text (gave _))))))

texts_text : (ns : Names) (u v w : Word) (t : Token) (s : Starred) {a : Bool} → ReadsConsts u a → ((u : Word) → Told Texts (at ns TextsType) (texts_behind ns u) (t ∷ (v ++ w)) (type_of u t v s)) → Texts (at ns TextsType) (u ++ (t ∷ (v ++ w))) (type_of u t v s)
unfolding form
texts_text ns u v w t s no_const d = text_of ns TextsType (other (d []))
texts_text ns u v w t s (more_const {t = t0} {w = u0} i f) d = text_of ns TextsType (one (took t0 (word_passes ns keyword.Const t0 i) (got u0 (find_consts ns f).text (d (t0 ∷ u0)))))

find_texts : (ns : Names) {w : Word} {c : CType} → ReadsType ns true w c → is_texts ns c ≡ true → Texts (at ns TextsType) w c
find_texts ns (type_is {t = t} {u = u} {v = v} {x = x} d b e (more_stars {t = p} {u = y} f g (more_stars {t = q} {u = z} h i no_star))) m =
    subst (λ (a : CType). Texts (at ns TextsType) (u ++ t ∷ v ++ (p ∷ y ++ (q ∷ z ++ []))) a)
    (same_type u v (p ∷ y ++ (q ∷ z ++ [])) t 2 (find_base ns true b).same (find_consts ns d).some (find_consts ns e).some)
    (text_at {q = TextsType} (sym (append_assoc u (t ∷ v) (p ∷ y ++ (q ∷ z ++ [])))) (texts_text ns u v (p ∷ y ++ (q ∷ z ++ [])) t (two_stars p y q z) d
    (λ u. texts_told ns u t p q (char_base ns b (and_first (is_a_char (meaning_of_base ns x)) true m)) e f g h i)))
find_texts ns (type_is {x = x} d b e no_star) m = absurd (omega (arith, eqb-true 0 2 (and_second (is_a_char (meaning_of_base ns x)) (0 == 2) m)))
find_texts ns (type_is {x = x} d b e (more_stars f g no_star)) m = absurd (omega (arith, eqb-true 1 2 (and_second (is_a_char (meaning_of_base ns x)) (1 == 2) m)))
find_texts ns (type_is {x = x} d b e (more_stars f g (more_stars h i (more_stars {n = n} j l o)))) m =
    absurd (omega (arith, eqb-true (suc (suc (suc n))) 2 (and_second (is_a_char (meaning_of_base ns x)) (suc (suc (suc n)) == 2) m)))

-- a parameter, by its type and the rest
pub record FoundParameter (ns : Names) (w : Word) (p : Parameter) : Type 0 where
  pub front : Word
  pub rest : Word
  pub type : CType
  pub same : w ≡ front ++ rest
  pub reads : ReadsType ns true front type
  pub text : Texts (at ns (ParameterEnd type)) rest p
  pub declared : p.declared ≡ type

split_parameter : (ns : Names) {w : Word} {p : Parameter} → ReadsParameter ns w p → FoundParameter ns w p
split_parameter ns (unnamed {w = w} {c = c} d o) = record { front = w; rest = []; type = c; same = sym (append-nil w); reads = d; text = no_name_text ns c; declared = refl }
split_parameter ns (named n {w = w} {c = c} d o i) = record { front = w; rest = n ∷ []; type = c; same = refl; reads = d; text = name_text ns c n i; declared = refl }

main_text : (ns : Names) (m : Token) {u w : Word} {p q : Parameter} → FoundParameter ns u p → IsSign m sign.Comma → FoundParameter ns w q → (is_int ns p.declared && is_texts ns q.declared) ≡ true → Texts (at ns (ParametersOf true)) (u ++ (m ∷ w)) (p ∷ q ∷ [])
unfolding form
main_text ns m {u = u} {w = w} {p = p} {q = q} a e b h =
    text_at {q = ParametersOf true} (ap (λ (z : Word). a.front ++ (a.rest ++ (m ∷ z))) (sym b.same) ∙ sym (append_assoc a.front a.rest (m ∷ w)) ∙ ap (λ (z : Word). z ++ (m ∷ w)) (sym a.same))
    (text_of ns (ParametersOf true) (got a.type (find_int ns a.reads (ap (is_int ns) (sym a.declared) ∙ and_first (is_int ns p.declared) (is_texts ns q.declared) h)) (got p a.text (took m (sign_passes ns sign.Comma m e)
    (got b.type (find_texts ns b.reads (ap (is_texts ns) (sym b.declared) ∙ and_second (is_int ns p.declared) (is_texts ns q.declared) h)) (last q b.text (gave _)))))))

main_list : (ns : Names) {u w : Word} {p : Parameter} {ps : List Parameter} → ReadsParameter ns u p → ReadsMoreParameters ns w ps → are_arguments ns (p ∷ ps) ≡ true → Texts (at ns (ParametersOf true)) (u ++ w) (p ∷ ps)
main_list ns d no_parameter h = absurd (true≢false (sym h))
main_list ns {u = u} d (more_parameters {t = t} {u = y} e f no_parameter) h = text_at {q = ParametersOf true} (ap (λ (z : Word). u ++ (t ∷ z)) (sym (append-nil y))) (main_text ns t (split_parameter ns d) e (split_parameter ns f) h)
main_list ns d (more_parameters e f (more_parameters g i j)) h = absurd (true≢false (sym h))

-- 4. What stands in the brackets of a function

pub record FoundParameters (ns : Names) (w : Word) (ps : List Parameter) : Type 0 where
  pub opens : Token
  pub closes : Token
  pub inside : Word
  pub same : w ≡ opens ∷ (inside ++ (closes ∷ []))
  pub is_open : IsSign opens sign.OpenParen
  pub is_close : IsSign closes sign.CloseParen
  pub text : Texts (at ns (ParametersOf false)) inside ps
  pub main : are_arguments ns ps ≡ true → Texts (at ns (ParametersOf true)) inside ps

find_parameters : (ns : Names) {w : Word} {ps : List Parameter} → ReadsParameters ns w ps → FoundParameters ns w ps
find_parameters ns (none_taken {t = t} {x = x} {s = s} i j h) =
    record { opens = t; closes = s; inside = x ∷ []; same = refl; is_open = i; is_close = h; text = void_text ns x j; main = λ e. absurd (true≢false (sym e)) }
find_parameters ns (some_taken {t = t} s {u = u} {w = w} i d f j) =
    record { opens = t; closes = s; inside = u ++ w; same = refl; is_open = i; is_close = j; text = parameter_list ns d (find_more_parameters ns f); main = λ e. main_list ns d f e }

-- 5. Functions

-- where a function begins and ends
pub end_is : (n : ℕ) (w : Word) (s : Token) → end_of n (w ++ (s ∷ [])) ≡ s.end
end_is n [] s = refl
end_is n (t ∷ w) s = end_is t.end w s

-- what a function's name and what stands before it promise, where it is `main`
abbrev pub HeadFits : Names → Bool → CType → Token → Type 0
HeadFits ns b c n = IfMust (is_main n.bytes) (not_static b && is_int ns c)

parameters_in : (ns : Names) (main : Bool) {w : Word} {ps : List Parameter} (f : FoundParameters ns w ps) → IfMust main (are_arguments ns ps) → Texts (at ns (ParametersOf main)) f.inside ps
parameters_in ns true f m = f.main (m refl)
parameters_in ns false f m = f.text

declared_text : (ns : Names) (b : Bool) (c : CType) (n : Token) (from : ℕ) {w z : Word} {ps : List Parameter} {x : Item} (f : FoundParameters ns w ps) → IfMust (is_main n.bytes) (are_arguments ns ps)
    → Told Texts (at ns (DeclaredOf b c n from)) (declared_end ns (list_all has_name ps) (signature b c n ps from f.closes) (λ i. i)) z x → Texts (at ns (DeclaredOf b c n from)) (w ++ z) x
unfolding form
declared_text ns b c n from {z = z} {ps = ps} f m d =
    text_at {q = DeclaredOf b c n from} (sym (append_assoc (f.opens ∷ f.inside) (f.closes ∷ []) z) ∙ ap (λ (y : Word). y ++ z) (sym f.same))
    (text_of ns (DeclaredOf b c n from) (took f.opens (sign_passes ns sign.OpenParen f.opens f.is_open) (got ps (parameters_in ns (is_main n.bytes) f m) (took f.closes (sign_passes ns sign.CloseParen f.closes f.is_close) d))))

prototype_told : (ns : Names) {q : What} (b : Bool) (s : Signature) (f : Item → tree_of q) (e : Token) → IsSign e sign.Semicolon → Told Texts (at ns q) (declared_end ns b s f) (e ∷ []) (f (item.Prototype s))
prototype_told ns true s f e i = one (took e (sign_passes ns sign.Semicolon e i) (gave _))
prototype_told ns false s f e i = took e (sign_passes ns sign.Semicolon e i) (gave _)

function_told : (ns : Names) {q : What} (b : Bool) (s : Signature) (f : Item → tree_of q) {w : Word} (x : Block) → b ≡ true → Texts (at (with_parameters (declared s.name FunctionName ∷ ns) s.parameters) BlockOf) w x
    → Told Texts (at ns q) (declared_end ns b s f) w (f (item.Function (record { signature = s; body = x })))
function_told ns true s f x e d = other (last x d (gave _))
function_told ns false s f x e d = absurd (true≢false (sym e))

-- the name of a function is `main` only where that may be
free_told : (m b : Bool) → IfMust m b → (not m || b) ≡ true
free_told true b h = h refl
free_told false b h = refl

free_passes : (b : Bool) (n : Token) → IsName n → IfMust (is_main n.bytes) b → is_free_name b (kind n) ≡ true
free_passes b n i h = and_true (name_passes [] n i) (free_told (is_main n.bytes) b h)

-- 6. Items that begin with a type

on_line_told : (line : Bool) (ns : Names) (test : Set) (t : Token) → on ns test (kind t) ≡ true → IfMust line t.begins_line → on ns (on_line line test) (kind t) ≡ true
on_line_told true ns test t e h = and_true e (h refl)
on_line_told false ns test t e h = and_true e refl

typed_base : (ns : Names) (line : Bool) (t : Token) (v w z : Word) (n : ℕ) {b : Bool} {x : Item} → on ns (is_base true) (kind t) ≡ true → IfMust line t.begins_line → ReadsConsts v b → FoundStars ns w n
    → Texts (at ns (TypedEnd (type_of [] t v (record { word = w; stars = n })))) z x → Texts (at ns (ItemOf line)) (t ∷ ((v ++ w) ++ z)) x
unfolding form
typed_base ns line t v w z n {x = x} e h c s d = text_of ns (ItemOf line) (other (other (other (other (other (took t (on_line_told line ns (is_base true) t e h)
    (got (type_of [] t v (record { word = w; stars = n })) (find_rest ns [] v w t n false c s no_must) (last x d (gave x)))))))))

typed_const : (ns : Names) (line : Bool) (t0 : Token) (u : Word) (t : Token) (v w z : Word) (n : ℕ) {a b : Bool} {x : Item} → IsWord t0 keyword.Const → IfMust line t0.begins_line → ReadsConsts u a → on ns (is_base true) (kind t) ≡ true
    → ReadsConsts v b → FoundStars ns w n → Texts (at ns (TypedEnd (type_of (t0 ∷ u) t v (record { word = w; stars = n })))) z x → Texts (at ns (ItemOf line)) (t0 ∷ (u ++ (t ∷ ((v ++ w) ++ z)))) x
unfolding form
typed_const ns line t0 u t v w z n {x = x} i h f e c s d =
    text_of ns (ItemOf line) (other (other (other (other (one (took t0 (on_line_told line ns (word_is keyword.Const) t0 (word_passes ns keyword.Const t0 i) h) (got u (find_consts ns f).text (took t e
    (got (type_of (t0 ∷ u) t v (record { word = w; stars = n })) (find_rest ns (t0 ∷ u) v w t n false c s no_must) (last x d (gave x)))))))))))

typed_in : (ns : Names) (line : Bool) (u v w z : Word) (t : Token) (n : ℕ) {y : Base} {a b : Bool} {x : Item} → ReadsConsts u a → BaseIs ns true t y → ReadsConsts v b → FoundStars ns w n → IfMust line (BeginsLine ((u ++ t ∷ v ++ w) ++ z))
    → Texts (at ns (TypedEnd (type_of u t v (record { word = w; stars = n })))) z x → Texts (at ns (ItemOf line)) ((u ++ t ∷ v ++ w) ++ z) x
typed_in ns line u v w z t n no_const b c s h d = typed_base ns line t v w z n (find_base ns true b).passes h c s d
typed_in ns line u v w z t n (more_const {t = t0} {w = u0} e f) b c s h d =
    text_at {q = ItemOf line} (const_word t0 u0 t v w z) (typed_const ns line t0 u0 t v w z n e h f (find_base ns true b).passes c s d)

typed_text : (ns : Names) (line : Bool) (z : Word) {y : Word} {c : CType} {x : Item} → ReadsType ns true y c → IfMust line (BeginsLine (y ++ z)) → Texts (at ns (TypedEnd c)) z x → Texts (at ns (ItemOf line)) (y ++ z) x
typed_text ns line z {x = x} (type_is {t = t} {u = u} {v = v} {w = w} {n = n} d b e s) h f =
    typed_in ns line u v w z t n d b e (find_stars ns s) h
    (subst (λ (c : CType). Texts (at ns (TypedEnd c)) z x) (sym (same_type u v w t n (find_base ns true b).same (find_consts ns d).some (find_consts ns e).some)) f)

typed_end_text : (ns : Names) (c : CType) (n : Token) {w : Word} {x : Item} → IsName n → IfMust (is_main n.bytes) (is_int ns c) → Texts (at ns (DeclaredOf false c n c.span.start)) w x → Texts (at ns (TypedEnd c)) (n ∷ w) x
unfolding form
typed_end_text ns c n {x = x} i h d = text_of ns (TypedEnd c) (took n (free_passes (is_int ns c) n i h) (last x d (gave x)))

-- 7. Static items

-- what follows the type of one: a variable, or a function that is not `main`
pub data StaticFound (ns : Names) (t : Token) (c : CType) : Word → Item → Type 0 where
  variable_found : (n a e : Token) {w : Word} {y : Expr} → IsName n → is_object c ≡ true → IsSign a sign.Assign → Texts (at ns (Value true)) w y → IsSign e sign.Semicolon
      → StaticFound ns t c (n ∷ a ∷ (w ++ (e ∷ []))) (item.Variable (record { declared = c; name = name_at n; value = y }))
  function_found : (n : Token) {w : Word} {x : Item} → IsName n → is_main n.bytes ≡ false → Texts (at ns (DeclaredOf true c n t.start)) w x → StaticFound ns t c (n ∷ w) x

variable_told : (ns : Names) {q : What} (c : CType) (n e : Token) (f : Item → tree_of q) {w : Word} (y : Expr) → Texts (at ns (Value true)) w y → IsSign e sign.Semicolon
    → Told Texts (at ns q) (variable_behind ns c n f) (w ++ (e ∷ [])) (f (item.Variable (record { declared = c; name = name_at n; value = y })))
variable_told ns c n e f y d i = got y d (took e (sign_passes ns sign.Semicolon e i) (gave _))

assigned_told : (ns : Names) (t : Token) (c : CType) (n a : Token) (object main : Bool) {w : Word} {x : Item} → object ≡ true → IsSign a sign.Assign → Told Texts (at ns (StaticEnd t c)) (variable_behind ns c n (λ i. i)) w x
    → Told Texts (at ns (StaticEnd t c)) (static_named ns t c n object main) (a ∷ w) x
assigned_told ns t c n a true false e i d = one (took a (sign_passes ns sign.Assign a i) d)
assigned_told ns t c n a true true e i d = took a (sign_passes ns sign.Assign a i) d
assigned_told ns t c n a false main e i d = absurd (true≢false (sym e))

static_function_told : (ns : Names) (t : Token) (c : CType) (n : Token) (object main : Bool) {w : Word} {x : Item} → main ≡ false → Texts (at ns (DeclaredOf true c n t.start)) w x
    → Told Texts (at ns (StaticEnd t c)) (static_named ns t c n object main) w x
static_function_told ns t c n true false {x = x} e d = other (last x d (gave x))
static_function_told ns t c n true true e d = absurd (true≢false e)
static_function_told ns t c n false main {x = x} e d = last x d (gave x)

not_main : (m b : Bool) → m ≡ false → IfMust m b
not_main m b e i = absurd (true≢false (sym i ∙ e))

static_end_text : (ns : Names) (t : Token) (c : CType) {w : Word} {x : Item} → StaticFound ns t c w x → Texts (at ns (StaticEnd t c)) w x
unfolding form
static_end_text ns t c (variable_found n a e {y = y} i o j d h) =
    text_of ns (StaticEnd t c) (took n (free_passes (is_object c) n i (λ e. o)) (assigned_told ns t c n a (is_object c) (is_main n.bytes) o j (variable_told ns c n e (λ i. i) y d h)))
static_end_text ns t c (function_found n i m d) =
    text_of ns (StaticEnd t c) (took n (free_passes (is_object c) n i (not_main (is_main n.bytes) (is_object c) m)) (static_function_told ns t c n (is_object c) (is_main n.bytes) m d))

-- the same behind `static const GInterfaceInfo`
info_assigned : (ns : Names) (t k i n a : Token) (c : CType) (object main : Bool) {w : Word} {x : Item} → object ≡ true → IsSign a sign.Assign → Told Texts (at ns (InfoEnd t k i)) (info_value ns c n (λ i. i)) w x
    → Told Texts (at ns (InfoEnd t k i)) (info_named ns t k i n c object main) (a ∷ w) x
info_assigned ns t k i n a c true false e j d = one (took a (sign_passes ns sign.Assign a j) d)
info_assigned ns t k i n a c true true e j d = took a (sign_passes ns sign.Assign a j) d
info_assigned ns t k i n a c false main e j d = absurd (true≢false (sym e))

info_function_told : (ns : Names) (t k i n : Token) (c : CType) (object main : Bool) {w : Word} {x : Item} → main ≡ false → Texts (at ns (DeclaredOf true c n t.start)) w x → Told Texts (at ns (InfoEnd t k i)) (info_named ns t k i n c object main) w x
info_function_told ns t k i n c true false {x = x} e d = other (last x d (gave x))
info_function_told ns t k i n c true true e d = absurd (true≢false e)
info_function_told ns t k i n c false main {x = x} e d = last x d (gave x)

info_bare : (ns : Names) (t k i : Token) (c : CType) (b : Bool) {w : Word} {x : Item} → b ≡ true → StaticFound ns t c w x → Told Texts (at ns (InfoEnd t k i)) (info_behind ns t k i c b) w x
info_bare ns t k i c true f (variable_found n a e {y = y} j o h d l) =
    other (took n (free_passes (is_object c) n j (λ e. o)) (info_assigned ns t k i n a c (is_object c) (is_main n.bytes) o h (other (variable_told ns c n e (λ i. i) y d l))))
info_bare ns t k i c true f (function_found n j m d) =
    other (took n (free_passes (is_object c) n j (not_main (is_main n.bytes) (is_object c) m)) (info_function_told ns t k i n c (is_object c) (is_main n.bytes) m d))
info_bare ns t k i c false f d = absurd (true≢false (sym f))

info_more : (ns : Names) (t k i : Token) (c y : CType) (b : Bool) {u w : Word} {x : Item} → b ≡ true → Texts (at ns (TypeMore (k ∷ []) i)) u y → Texts (at ns (StaticEnd t y)) w x → Told Texts (at ns (InfoEnd t k i)) (info_behind ns t k i c b) (u ++ w) x
info_more ns t k i c y true {x = x} f d e = one (got y d (last x e (gave x)))
info_more ns t k i c y false f d e = absurd (true≢false (sym f))

info_text : (ns : Names) (t k i : Token) (v w z : Word) (n : ℕ) {b : Bool} {x : Item} → can_be_type true (role_of ns i.bytes) ≡ true → ReadsConsts v b → ReadsStars w n → StaticFound ns t (type_of (k ∷ []) i v (record { word = w; stars = n })) z x
    → Texts (at ns (InfoEnd t k i)) ((v ++ w) ++ z) x
unfolding form
info_text ns t k i v w z n f no_const no_star d = text_of ns (InfoEnd t k i) (info_bare ns t k i (type_of (k ∷ []) i [] no_stars) (can_be_type true (role_of ns i.bytes)) f d)
info_text ns t k i v w z n f no_const (more_stars {n = m} e c s) d = text_of ns (InfoEnd t k i)
    (info_more ns t k i (type_of (k ∷ []) i [] no_stars) (type_of (k ∷ []) i [] (record { word = w; stars = n })) (can_be_type true (role_of ns i.bytes)) f
    (more_star_text ns (k ∷ []) i w n (find_stars ns (more_stars e c s)) (some_star m)) (static_end_text ns t _ d))
info_text ns t k i v w z n f (more_const {t = c} {w = v0} e g) s d = text_of ns (InfoEnd t k i)
    (info_more ns t k i (type_of (k ∷ []) i [] no_stars) (type_of (k ∷ []) i v (record { word = w; stars = n })) (can_be_type true (role_of ns i.bytes)) f
    (more_const_text ns (k ∷ []) i c v0 w n e g (find_stars ns s)) (static_end_text ns t _ d))

static_type_told : (ns : Names) (t : Token) (u : Word) (b : Token) (v w z : Word) (n : ℕ) {a : Bool} {x : Item} → ReadsConsts v a → FoundStars ns w n → Texts (at ns (StaticEnd t (type_of u b v (record { word = w; stars = n })))) z x
    → Told Texts (at ns (StaticRest t)) (static_type ns t u b) ((v ++ w) ++ z) x
static_type_told ns t u b v w z n {x = x} c s d = got (type_of u b v (record { word = w; stars = n })) (find_rest ns u v w b n false c s no_must) (last x d (gave x))

-- a name behind `static const`, by whether it is `GInterfaceInfo`
const_name_told : (ns : Names) (t k i : Token) (v w z : Word) (n : ℕ) (info : Bool) {b : Bool} {x : Item} → can_be_type true (role_of ns i.bytes) ≡ true → ReadsConsts v b → ReadsStars w n
    → StaticFound ns t (type_of (k ∷ []) i v (record { word = w; stars = n })) z x → Told Texts (at ns (StaticRest t)) (static_const ns t k i info) ((v ++ w) ++ z) x
const_name_told ns t k i v w z n true {x = x} f c s d = last x (info_text ns t k i v w z n f c s d) (gave x)
const_name_told ns t k i v w z n false f c s d = static_type_told ns t (k ∷ []) i v w z n c (find_stars ns s) (static_end_text ns t _ d)

info_or_type : (ns : Names) (i : Token) → IsName i → can_be_type true (role_of ns i.bytes) ≡ true → is_info_or_type ns (kind i) ≡ true
info_or_type ns i j r = and_true (name_passes [] i j) (or_right (bytes_eq i.bytes (codes "GInterfaceInfo")) _ (name_with_passes ns (can_be_type true) i j r))

static_base : (ns : Names) (t b : Token) (v w z : Word) (n : ℕ) {a : Bool} {x : Item} → on ns (is_base true) (kind b) ≡ true → ReadsConsts v a → ReadsStars w n → StaticFound ns t (type_of [] b v (record { word = w; stars = n })) z x
    → Texts (at ns (StaticRest t)) (b ∷ ((v ++ w) ++ z)) x
unfolding form
static_base ns t b v w z n e c s d = text_of ns (StaticRest t) (other (took b e (static_type_told ns t [] b v w z n c (find_stars ns s) (static_end_text ns t _ d))))

static_one : (ns : Names) (t k b : Token) (v w z : Word) (n : ℕ) {y : Base} {a : Bool} {x : Item} → IsWord k keyword.Const → BaseIs ns true b y → ReadsConsts v a → ReadsStars w n → StaticFound ns t (type_of (k ∷ []) b v (record { word = w; stars = n })) z x
    → Texts (at ns (StaticRest t)) (k ∷ b ∷ ((v ++ w) ++ z)) x
unfolding form
static_one ns t k b v w z n i (named_is j r) c s d =
    text_of ns (StaticRest t) (one (took k (word_passes ns keyword.Const k i) (one (took b (info_or_type ns b j r) (const_name_told ns t k b v w z n (bytes_eq b.bytes (codes "GInterfaceInfo")) r c s d)))))
static_one ns t k b v w z n i (void_is j) c s d =
    text_of ns (StaticRest t) (one (took k (word_passes ns keyword.Const k i) (other (other (took b (passes ns is_key_base b j refl) (static_type_told ns t (k ∷ []) b v w z n c (find_stars ns s) (static_end_text ns t _ d)))))))
static_one ns t k b v w z n i (int_is j) c s d =
    text_of ns (StaticRest t) (one (took k (word_passes ns keyword.Const k i) (other (other (took b (passes ns is_key_base b j refl) (static_type_told ns t (k ∷ []) b v w z n c (find_stars ns s) (static_end_text ns t _ d)))))))
static_one ns t k b v w z n i (char_is j) c s d =
    text_of ns (StaticRest t) (one (took k (word_passes ns keyword.Const k i) (other (other (took b (passes ns is_key_base b j refl) (static_type_told ns t (k ∷ []) b v w z n c (find_stars ns s) (static_end_text ns t _ d)))))))

static_more : (ns : Names) (t k l : Token) (u : Word) (b : Token) (v w z : Word) (n : ℕ) {a e : Bool} {x : Item} → IsWord k keyword.Const → IsWord l keyword.Const → ReadsConsts u a → on ns (is_base true) (kind b) ≡ true → ReadsConsts v e → ReadsStars w n
    → StaticFound ns t (type_of (k ∷ l ∷ u) b v (record { word = w; stars = n })) z x → Texts (at ns (StaticRest t)) (k ∷ l ∷ (u ++ (b ∷ ((v ++ w) ++ z)))) x
unfolding form
static_more ns t k l u b v w z n i j f e c s d =
    text_of ns (StaticRest t) (one (took k (word_passes ns keyword.Const k i) (other (one (took l (word_passes ns keyword.Const l j) (got u (find_consts ns f).text (took b e
    (static_type_told ns t (k ∷ l ∷ u) b v w z n c (find_stars ns s) (static_end_text ns t _ d)))))))))

static_in : (ns : Names) (t : Token) (u v w z : Word) (b : Token) (n : ℕ) {y : Base} {a e : Bool} {x : Item} → ReadsConsts u a → BaseIs ns true b y → ReadsConsts v e → ReadsStars w n → StaticFound ns t (type_of u b v (record { word = w; stars = n })) z x
    → Texts (at ns (StaticRest t)) ((u ++ b ∷ v ++ w) ++ z) x
static_in ns t u v w z b n no_const h c s d = static_base ns t b v w z n (find_base ns true h).passes c s d
static_in ns t u v w z b n (more_const {t = k} i no_const) h c s d = static_one ns t k b v w z n i h c s d
static_in ns t u v w z b n (more_const {t = k} i (more_const {t = l} {w = u0} j f)) h c s d =
    text_at {q = StaticRest t} (ap (λ (y : Word). k ∷ y) (const_word l u0 b v w z)) (static_more ns t k l u0 b v w z n i j f (find_base ns true h).passes c s d)

static_text : (ns : Names) (t : Token) (z : Word) {y : Word} {c : CType} {x : Item} → ReadsType ns true y c → StaticFound ns t c z x → Texts (at ns (StaticRest t)) (y ++ z) x
static_text ns t z {x = x} (type_is {t = b} {u = u} {v = v} {w = w} {n = n} d h e s) f =
    static_in ns t u v w z b n d h e s (subst (λ (c : CType). StaticFound ns t c z x) (sym (same_type u v w b n (find_base ns true h).same (find_consts ns d).some (find_consts ns e).some)) f)

static_item : (ns : Names) (line : Bool) (t : Token) {w : Word} {x : Item} → IsWord t keyword.Static → IfMust line t.begins_line → Texts (at ns (StaticRest t)) w x → Texts (at ns (ItemOf line)) (t ∷ w) x
unfolding form
static_item ns line t {x = x} i h d = text_of ns (ItemOf line) (other (other (other (one (took t (on_line_told line ns (word_is keyword.Static) t (word_passes ns keyword.Static t i) h) (last x d (gave x)))))))

-- 8. Tables of interfaces

null_passes : (ns : Names) (t : Token) → IsNull t → on ns (is Null) (kind t) ≡ true
null_passes ns t e = passes ns (is Null) t e refl

name_of : (w : List ℕ) (t : Token) → IsNamed t w → is_name_of w (kind t) ≡ true
name_of w t i = and_true (name_passes [] t i.0) (equal_bytes t.bytes w i.1)

table_inside_text : (ns : Names) (p y q f d x m z : Token) → IsSign p sign.OpenParen → IsNamed y (codes "GInterfaceInitFunc") → IsSign q sign.CloseParen → IsName f → IsSign d sign.Comma → IsNull x → IsSign m sign.Comma → IsNull z
    → Texts (at ns TableInside) (p ∷ y ∷ q ∷ f ∷ d ∷ x ∷ m ∷ z ∷ []) f
unfolding form
table_inside_text ns p y q f d x m z e1 e2 e3 e4 e5 e6 e7 e8 = text_of ns TableInside
    (took p (sign_passes ns sign.OpenParen p e1) (took y (name_of (codes "GInterfaceInitFunc") y e2) (took q (sign_passes ns sign.CloseParen q e3) (took f (name_passes ns f e4)
    (took d (sign_passes ns sign.Comma d e5) (took x (null_passes ns x e6) (took m (sign_passes ns sign.Comma m e7) (took z (null_passes ns z e8) (gave f)))))))))

table_told : (ns : Names) {r : What} (n : Token) (f : Item → tree_of r) (l s e : Token) {w : Word} (g : Token) → IsSign l sign.OpenBrace → Texts (at ns TableInside) w g → IsSign s sign.CloseBrace → IsSign e sign.Semicolon
    → Told Texts (at ns r) (table_behind ns n f) (l ∷ (w ++ (s ∷ e ∷ []))) (f (item.InterfaceTable (record { name = name_at n; init = name_at g })))
table_told ns n f l s e g i d j h = took l (sign_passes ns sign.OpenBrace l i) (got g d (took s (sign_passes ns sign.CloseBrace s j) (took e (sign_passes ns sign.Semicolon e h) (gave _))))

-- a name is the name of an object's type
name_object : (i : Token) (u : Word) → IsName i → is_object (type_of u i [] no_stars) ≡ true
name_object i u e = ap (λ (x : Terminal). not (is_void_base (base_in x (name_at i)) && 0 == 0)) e

table_info : (ns : Names) (t k i n a : Token) (b : Bool) {w : Word} {x : Item} → IsName i → IsName n → IsSign a sign.Assign → ((r : What) (f : Item → tree_of r) → Told Texts (at ns r) (table_behind ns n f) w (f x))
    → Told Texts (at ns (InfoEnd t k i)) (info_behind ns t k i (type_of (k ∷ []) i [] no_stars) b) (n ∷ a ∷ w) x
table_info ns t k i n a true e j h d =
    other (took n (free_passes (is_object (type_of (k ∷ []) i [] no_stars)) n j (λ m. name_object i (k ∷ []) e))
    (info_assigned ns t k i n a (type_of (k ∷ []) i [] no_stars) (is_object (type_of (k ∷ []) i [] no_stars)) (is_main n.bytes) (name_object i (k ∷ []) e) h (one (d (InfoEnd t k i) (λ i. i)))))
table_info ns t k i n a false e j h d = took n (name_passes ns n j) (took a (sign_passes ns sign.Assign a h) (d (InfoEnd t k i) (λ i. i)))

table_info_text : (ns : Names) (t k i n a : Token) {w : Word} {x : Item} → IsName i → IsName n → IsSign a sign.Assign → ((r : What) (f : Item → tree_of r) → Told Texts (at ns r) (table_behind ns n f) w (f x))
    → Texts (at ns (InfoEnd t k i)) (n ∷ a ∷ w) x
unfolding form
table_info_text ns t k i n a e j h d = text_of ns (InfoEnd t k i) (table_info ns t k i n a (can_be_type true (role_of ns i.bytes)) e j h d)

info_name : (ns : Names) (i : Token) → IsNamed i (codes "GInterfaceInfo") → is_info_or_type ns (kind i) ≡ true
info_name ns i e = and_true (name_passes [] i e.0) (or_left (bytes_eq i.bytes (codes "GInterfaceInfo")) _ (equal_bytes i.bytes (codes "GInterfaceInfo") e.1))

info_const : (ns : Names) (t k i : Token) (b : Bool) {w : Word} {x : Item} → b ≡ true → Texts (at ns (InfoEnd t k i)) w x → Told Texts (at ns (StaticRest t)) (static_const ns t k i b) w x
info_const ns t k i true {x = x} e d = last x d (gave x)
info_const ns t k i false e d = absurd (true≢false (sym e))

table_static : (ns : Names) (t k i : Token) {w : Word} {x : Item} → IsWord k keyword.Const → IsNamed i (codes "GInterfaceInfo") → Texts (at ns (InfoEnd t k i)) w x → Texts (at ns (StaticRest t)) (k ∷ i ∷ w) x
unfolding form
table_static ns t k i j e d = text_of ns (StaticRest t) (one (took k (word_passes ns keyword.Const k j) (one (took i (info_name ns i e) (info_const ns t k i (bytes_eq i.bytes (codes "GInterfaceInfo")) (equal_bytes i.bytes (codes "GInterfaceInfo") e.1) d)))))

-- 9. `typedef`, structs and included files

typedef_item : (ns : Names) (line : Bool) (t : Token) {w : Word} {x : Item} → IsWord t keyword.Typedef → IfMust line t.begins_line → Texts (at ns (TypedefRest t)) w x → Texts (at ns (ItemOf line)) (t ∷ w) x
unfolding form
typedef_item ns line t {x = x} i h d = text_of ns (ItemOf line) (other (one (took t (on_line_told line ns (word_is keyword.Typedef) t (word_passes ns keyword.Typedef t i) h) (last x d (gave x)))))

low_told : (w y : List ℕ) → w ≡ 95 ∷ y → begins_low w ≡ true
low_told w y e = ap begins_low e

behind_told : (w y : List ℕ) → w ≡ 95 ∷ y → behind_first w ≡ y
behind_told w y e = ap behind_first e

struct_type_text : (ns : Names) (t s g n e : Token) → IsWord s keyword.Struct → IsTag g n.bytes → IsName n → IsSign e sign.Semicolon → Texts (at ns (TypedefRest t)) (s ∷ g ∷ n ∷ e ∷ []) (item.StructType (name_at n))
unfolding form
struct_type_text ns t s g n e i h j l = text_of ns (TypedefRest t) (one (took s (word_passes ns keyword.Struct s i) (took g (and_true (name_passes [] g h.0) (low_told g.bytes n.bytes h.1))
    (took n (name_of (behind_first g.bytes) n (j, sym (behind_told g.bytes n.bytes h.1))) (took e (sign_passes ns sign.Semicolon e l) (gave _))))))

enum_text : (ns : Names) (t s l r n e : Token) {w : Word} {ms : List Member} → IsWord s keyword.Enum → IsSign l sign.OpenBrace → Texts (at ns Members) w ms → IsSign r sign.CloseBrace → IsName n → IsSign e sign.Semicolon
    → Texts (at ns (TypedefRest t)) (s ∷ l ∷ (w ++ (r ∷ n ∷ e ∷ []))) (item.Enumeration (record { members = ms; name = name_at n }))
unfolding form
enum_text ns t s l r n e {ms = ms} i h d j m o = text_of ns (TypedefRest t) (other (one (took s (word_passes ns keyword.Enum s i) (took l (sign_passes ns sign.OpenBrace l h) (got ms d (took r (sign_passes ns sign.CloseBrace r j)
    (took n (name_passes ns n m) (took e (sign_passes ns sign.Semicolon e o) (gave _)))))))))

function_type_text : (ns : Names) (t o s n c e : Token) {u w : Word} {r : CType} {ps : List Parameter} → ReadsType ns true u r → IsSign o sign.OpenParen → IsSign s sign.Star → IsName n → IsSign c sign.CloseParen → (f : FoundParameters ns w ps) → IsSign e sign.Semicolon
    → Texts (at ns (TypedefRest t)) (u ++ (o ∷ s ∷ n ∷ c ∷ (w ++ (e ∷ [])))) (item.FunctionType (signature false r n ps t.start f.closes))
unfolding form
function_type_text ns t o s n c e {u = u} {r = r} {ps = ps} d i j h l f m =
    text_at {q = TypedefRest t} (ap (λ (z : Word). u ++ (o ∷ s ∷ n ∷ c ∷ z)) (sym (append_assoc (f.opens ∷ f.inside) (f.closes ∷ []) (e ∷ [])) ∙ ap (λ (z : Word). z ++ (e ∷ [])) (sym f.same)))
    (text_of ns (TypedefRest t) (other (other (got r (find_type ns true false d no_must) (took o (sign_passes ns sign.OpenParen o i) (took s (sign_passes ns sign.Star s j) (took n (name_passes ns n h) (took c (sign_passes ns sign.CloseParen c l)
    (took f.opens (sign_passes ns sign.OpenParen f.opens f.is_open) (got ps f.text (took f.closes (sign_passes ns sign.CloseParen f.closes f.is_close) (took e (sign_passes ns sign.Semicolon e m) (gave _)))))))))))))

same_struct : (g : Token) (x : List ℕ) (fs : List Local) → g.bytes ≡ 95 ∷ x
    → item.Struct (record { name = struct_name g; fields = fs }) ≡ item.Struct (record { name = record { text = x; span = record { start = g.start; «end» = g.end } }; fields = fs })
same_struct g x fs e = ap (λ (y : List ℕ). item.Struct (record { name = record { text = y; span = record { start = g.start; «end» = g.end } }; fields = fs })) (behind_told g.bytes x e)

struct_text : (ns : Names) (line : Bool) (s g l r e : Token) {x : List ℕ} {w : Word} {fs : List Local} → IsWord s keyword.Struct → IfMust line s.begins_line → IsTag g x → IsSign l sign.OpenBrace → Texts (at ns Fields) w fs → IsSign r sign.CloseBrace
    → IsSign e sign.Semicolon → Texts (at ns (ItemOf line)) (s ∷ g ∷ l ∷ (w ++ (r ∷ e ∷ []))) (item.Struct (record { name = struct_name g; fields = fs }))
unfolding form
struct_text ns line s g l r e {x = x} {fs = fs} i b h j d m o = text_of ns (ItemOf line) (other (other (one (took s (on_line_told line ns (word_is keyword.Struct) s (word_passes ns keyword.Struct s i) b)
    (took g (and_true (name_passes [] g h.0) (low_told g.bytes x h.1)) (took l (sign_passes ns sign.OpenBrace l j) (got fs d (took r (sign_passes ns sign.CloseBrace r m) (took e (sign_passes ns sign.Semicolon e o) (gave _))))))))))

include_text : (ns : Names) (line : Bool) (t i h : Token) {f : Include} → IsSign t sign.Hash → t.begins_line ≡ true → IsNamed i (codes "include") → i.begins_line ≡ false → h.terminal ≡ Header f
    → Texts (at ns (ItemOf line)) (t ∷ i ∷ h ∷ []) (item.Include f)
unfolding form
include_text ns line t i h e b j c d = subst (λ (x : Terminal). Texts (at ns (ItemOf line)) (t ∷ i ∷ h ∷ []) (item.Include (file_in x))) d
    (text_of ns (ItemOf line) (one (took t (and_true (sign_passes ns sign.Hash t e) b) (took i (and_true (name_of (codes "include") i j) (ap not c)) (took h (passes ns (is File) h d refl) (gave _))))))

-- 10. Signatures

-- what a signature is read as, from the front: its head, its parameters and what `main` asks
pub record FoundSignature (ns : Names) (w : Word) (s : Signature) : Type 0 where
  pub front : Word
  pub head : Word
  pub name : Token
  pub behind : Word
  pub same : w ≡ (front ++ head) ++ (name ∷ behind)
  pub static : ReadsStatic front s.is_static
  pub reads : ReadsType ns true head s.result
  pub is : IsName name
  pub parameters : FoundParameters ns behind s.parameters
  pub tree : s ≡ signature s.is_static s.result name s.parameters (start_of 0 w) parameters.closes
  pub main : IfMust (is_main name.bytes) (not_static s.is_static && is_int ns s.result && are_arguments ns s.parameters)

pub main_told : (m a : Bool) → (if m then a else true) ≡ true → IfMust m a
main_told true a e i = e
main_told false a e i = absurd (true≢false (sym i))

find_signature : (ns : Names) {w : Word} {s : Signature} → ReadsSignature ns w s → FoundSignature ns w s
find_signature ns (signature_is n {u = u} {v = v} {w = w} {b = b} {c = c} {ps = ps} st ty i pr mf) =
    let f = find_parameters ns pr in record {
      front = u;
      head = v;
      name = n;
      behind = w;
      same = refl;
      static = st;
      reads = ty;
      is = i;
      parameters = f;
      tree = ap (λ (e : ℕ). record { is_static = b; result = c; name = name_at n; parameters = ps; span = record { start = start_of 0 (u ++ v ++ n ∷ w); «end» = e } })
          (ap (λ (z : Word). end_of 0 ((u ++ v) ++ (n ∷ z))) f.same ∙ ap (end_of 0) (sym (append_assoc (u ++ v) (n ∷ f.opens ∷ f.inside) (f.closes ∷ []))) ∙ end_is 0 ((u ++ v) ++ (n ∷ f.opens ∷ f.inside)) f.closes);
      main = main_told (is_main n.bytes) (not_static b && is_int ns c && are_arguments ns ps) mf;
    }

-- where a type begins
start_in : (u v w z : Word) (t : Token) {a : Bool} → ReadsConsts u a → start_of 0 ((u ++ t ∷ v ++ w) ++ z) ≡ start_of 0 (u ++ t ∷ v ++ w)
start_in u v w z t no_const = refl
start_in u v w z t (more_const i f) = refl

pub start_is : (ns : Names) (z : Word) {y : Word} {c : CType} → ReadsType ns true y c → start_of 0 (y ++ z) ≡ c.span.start
start_is ns z (type_is {t = t} {u = u} {v = v} {w = w} d b e s) = start_in u v w z t d

-- a static function is not `main`
never_main : (m b : Bool) → IfMust m (not_static true && b) → m ≡ false
never_main true b h = absurd (true≢false (sym (h refl)))
never_main false b h = refl

-- an item that begins with a head, by what stands behind its name
head_item : (ns : Names) (line : Bool) (n : Token) (c : CType) (y z : Word) (x : Item) {front head : Word} {b : Bool} → ReadsStatic front b → ReadsType ns true head c → IsName n → IfMust (is_main n.bytes) (not_static b && is_int ns c)
    → IfMust line (BeginsLine (((front ++ head) ++ (n ∷ y)) ++ z)) → ((from : ℕ) → start_of 0 ((front ++ head) ++ (n ∷ y)) ≡ from → Texts (at ns (DeclaredOf b c n from)) (y ++ z) x)
    → Texts (at ns (ItemOf line)) (((front ++ head) ++ (n ∷ y)) ++ z) x
head_item ns line n c y z x {head = head} no_static d i m h f =
    text_at {q = ItemOf line} (sym (append_assoc head (n ∷ y) z))
    (typed_text ns line (n ∷ (y ++ z)) d (subst (λ (w : Word). IfMust line (BeginsLine w)) (append_assoc head (n ∷ y) z) h)
    (typed_end_text ns c n i (λ e. and_second (not_static false) (is_int ns c) (m e)) (f c.span.start (start_is ns (n ∷ y) d))))
head_item ns line n c y z x {head = head} (is_static {t = t} j) d i m h f =
    text_at {q = ItemOf line} (ap (λ (w : Word). t ∷ w) (sym (append_assoc head (n ∷ y) z)))
    (static_item ns line t j h (static_text ns t (n ∷ (y ++ z)) d (function_found n i (never_main (is_main n.bytes) (is_int ns c) m) (f t.start refl))))

-- an item that begins with a signature, by what stands behind it
signature_item : (ns : Names) (line : Bool) {w : Word} {s : Signature} (z : Word) (x : Item) (f : FoundSignature ns w s) → IfMust line (BeginsLine (w ++ z))
    → ((r : What) (g : Item → tree_of r) → Told Texts (at ns r) (declared_end ns (list_all has_name s.parameters) s g) z (g x)) → Texts (at ns (ItemOf line)) (w ++ z) x
signature_item ns line {w = w} {s = s} z x f h d =
    text_at {q = ItemOf line} (ap (λ (y : Word). y ++ z) (sym f.same))
    (head_item ns line f.name s.result f.behind z x f.static f.reads f.is (λ e. and_first (not_static s.is_static && is_int ns s.result) (are_arguments ns s.parameters) (f.main e))
    (subst (λ (y : Word). IfMust line (BeginsLine (y ++ z))) f.same h) declared)
  where
    args : IfMust (is_main f.name.bytes) (are_arguments ns s.parameters)
    args e = and_second (not_static s.is_static && is_int ns s.result) (are_arguments ns s.parameters) (f.main e)

    tail : (r : What) (from : ℕ) → start_of 0 ((f.front ++ f.head) ++ (f.name ∷ f.behind)) ≡ from → (g : Item → tree_of r)
        → Told Texts (at ns r) (declared_end ns (list_all has_name s.parameters) (signature s.is_static s.result f.name s.parameters from f.parameters.closes) g) z (g x)
    tail r from e g = subst (λ (y : Signature). Told Texts (at ns r) (declared_end ns (list_all has_name s.parameters) y g) z (g x))
        (f.tree ∙ ap (λ (n : ℕ). signature s.is_static s.result f.name s.parameters n f.parameters.closes) (ap (start_of 0) f.same ∙ e)) (d r g)

    declared : (from : ℕ) → start_of 0 ((f.front ++ f.head) ++ (f.name ∷ f.behind)) ≡ from → Texts (at ns (DeclaredOf s.is_static s.result f.name from)) (f.behind ++ z) x
    declared from e = declared_text ns s.is_static s.result f.name from f.parameters args (tail (DeclaredOf s.is_static s.result f.name from) from e (λ i. i))

-- 11. Items

function_type_tree : (n t o s c : Token) (u w : Word) (r : CType) (ps : List Parameter) (e : ℕ) → end_of 0 (t ∷ u ++ o ∷ s ∷ n ∷ c ∷ w) ≡ e
    → item.FunctionType (record { is_static = false; result = r; name = name_at n; parameters = ps; span = record { start = t.start; «end» = e } })
    ≡ item.FunctionType (record { is_static = false; result = r; name = name_at n; parameters = ps; span = extent (t ∷ u ++ o ∷ s ∷ n ∷ c ∷ w) })
function_type_tree n t o s c u w r ps e h = ap (λ (e : ℕ). item.FunctionType (record { is_static = false; result = r; name = name_at n; parameters = ps; span = record { start = t.start; «end» = e } })) (sym h)

find_item : (ns : Names) (line : Bool) {w : Word} {i : Item} → ReadsItem ns w i → IfMust line (BeginsLine w) → Texts (at ns (ItemOf line)) w i
find_item ns line (includes {t = t} {i = i} {h = h} e b j c d) l = include_text ns line t i h e b j c d
find_item ns line (struct_type {t = t} {s = s} {g = g} {n = n} {e = e} a b c d f) l = typedef_item ns line t a l (struct_type_text ns t s g n e b c d f)
find_item ns line (struct_is {s = s} {g = g} {l = b} r e {x = x} {w = w} {fs = fs} i h j d m o) l =
    subst (λ (y : Item). Texts (at ns (ItemOf line)) (s ∷ g ∷ b ∷ (w ++ (r ∷ e ∷ []))) y) (same_struct g x fs h.1) (struct_text ns line s g b r e i l h j (find_fields ns d) m o)
find_item ns line (enum_is {t = t} {s = s} {l = b} r n e i h j d f m o p) l = typedef_item ns line t i l (enum_text ns t s b r n e h j (members_text ns d f) m o p)
find_item ns line (function_type {t = t} o s n c e {u = u} {w = w} {r = r} {ps = ps} i d j h y m pr p) l =
    let f = find_parameters ns pr in
    text_at {q = ItemOf line} (sym (append_assoc (t ∷ u) (o ∷ s ∷ n ∷ c ∷ w) (e ∷ [])))
    (subst (λ (y : Item). Texts (at ns (ItemOf line)) (t ∷ (u ++ (o ∷ s ∷ n ∷ c ∷ (w ++ (e ∷ []))))) y)
    (function_type_tree n t o s c u w r ps f.closes.end (ap (λ (z : Word). end_of 0 ((t ∷ u) ++ (o ∷ s ∷ n ∷ c ∷ z))) f.same ∙ ap (end_of 0) (sym (append_assoc (t ∷ u) (o ∷ s ∷ n ∷ c ∷ f.opens ∷ f.inside) (f.closes ∷ [])))
    ∙ end_is 0 ((t ∷ u) ++ (o ∷ s ∷ n ∷ c ∷ f.opens ∷ f.inside)) f.closes))
    (typedef_item ns line t i l (function_type_text ns t o s n c e d j h y m f p)))
find_item ns line (prototype e {s = s} d i) l = signature_item ns line (e ∷ []) (item.Prototype s) (find_signature ns d) l (λ r g. prototype_told ns (list_all has_name s.parameters) s g e i)
find_item ns line (static_variable {t = t} n a e {u = u} {w = w} i d o j b y m) l =
    text_at {q = ItemOf line} (sym (append_assoc (t ∷ u) (n ∷ a ∷ w) (e ∷ []))) (static_item ns line t i l (static_text ns t (n ∷ a ∷ (w ++ (e ∷ []))) d (variable_found n a e j o b (value_text ns true (find y)) m)))
find_item ns line (interface_table {t = t} {c = c} {i = i} {n = n} {a = a} {l = b} {p = p} {y = y} {q = q} {f = f} {d = d} {x = x} {m = m} {z = z} {r = r} {e = e} e1 e2 e3 e4 e5 e6 e7 e8 e9 f1 f2 f3 f4 f5 f6 f7) l =
    static_item ns line t e1 l (table_static ns t c i e2 e3 (table_info_text ns t c i n a e3.0 e4 e5 (λ h g. table_told ns n g b r e f e6 (table_inside_text ns p y q f d x m z e7 e8 e9 f1 f2 f3 f4 f5) f6 f7)))
find_item ns line (function_is {u = u} {w = w} {s = s} {b = b} d names body) l =
    signature_item ns line w (item.Function (record { signature = s; body = b })) (find_signature ns d) l (λ r g. function_told ns (list_all has_name s.parameters) s g b names (find_block body))

-- where a type begins, the line begins or not
line_in : (u v w z : Word) (t : Token) {a : Bool} → ReadsConsts u a → BeginsLine ((u ++ t ∷ v ++ w) ++ z) ≡ BeginsLine (u ++ t ∷ v ++ w)
line_in u v w z t no_const = refl
line_in u v w z t (more_const i f) = refl

type_line : {ns : Names} {y : Word} {c : CType} → ReadsType ns true y c → (z : Word) → BeginsLine (y ++ z) ≡ BeginsLine y
type_line (type_is {t = t} {u = u} {v = v} {w = w} d b e s) z = line_in u v w z t d

head_line : {ns : Names} {front head : Word} {b : Bool} {c : CType} → ReadsStatic front b → ReadsType ns true head c → (w z : Word) → BeginsLine (((front ++ head) ++ w) ++ z) ≡ BeginsLine ((front ++ head) ++ w)
head_line {head = head} no_static d w z = ap BeginsLine (append_assoc head w z) ∙ type_line d (w ++ z) ∙ sym (type_line d w)
head_line (is_static i) d w z = refl

signature_line : {ns : Names} {w : Word} {s : Signature} → ReadsSignature ns w s → (z : Word) → BeginsLine (w ++ z) ≡ BeginsLine w
signature_line (signature_is n {w = w} st ty i pr mf) z = head_line st ty (n ∷ w) z

-- an item has a token, with which the line begins or not
pub item_line : {ns : Names} {w : Word} {i : Item} → ReadsItem ns w i → (z : Word) → BeginsLine (w ++ z) ≡ BeginsLine w
item_line (includes e b j c d) z = refl
item_line (struct_type a b c d f) z = refl
item_line (struct_is r e i h j d m o) z = refl
item_line (enum_is r n e i h j d f m o p) z = refl
item_line (function_type o s n c e i d j h y m pr p) z = refl
item_line (prototype e {w = w} d i) z = ap BeginsLine (append_assoc w (e ∷ []) z) ∙ signature_line d (e ∷ z) ∙ sym (signature_line d (e ∷ []))
item_line (static_variable n a e i d o j b y m) z = refl
item_line (interface_table e1 e2 e3 e4 e5 e6 e7 e8 e9 f1 f2 f3 f4 f5 f6 f7) z = refl
item_line (function_is {u = u} {w = w} d names body) z = ap BeginsLine (append_assoc u w z) ∙ signature_line d (w ++ z) ∙ sym (signature_line d w)

is_some_line : (a b : Bool) → (not a || b) ≡ true → IfMust a b
is_some_line true b e i = e
is_some_line false b e i = absurd (true≢false (sym i))

pub find_items : {ns : Names} (line : Bool) {w : Word} {is : List Item} → ReadsItems ns w is → IfMust line (BeginsLine w) → Texts (at ns (ItemsOf line)) w is
unfolding form
find_items {ns} line no_item h = text_of ns (ItemsOf line) (other (gave []))
find_items {ns} line (more_items {u = u} {w = w} {i = i} {is = is} d e r) h =
    text_of ns (ItemsOf line) (one (got i (find_item ns line d (λ l. sym (item_line d w) ∙ h l)) (last is (find_items (is_include i) r (is_some_line (is_include i) (BeginsLine w) e)) (gave (i ∷ is)))))
