-- Values are read by their forms.
use Rattle.std.proofs.Common.{◌≡◌, ◌==◌, Bool, true, false, not, ◌&&◌, ◌||◌, List, [], ◌∷◌, ◌++◌, Option, Some, None, refl, sym, ap, subst, ◌∙◌, append-nil, append_assoc, true≢false, eq-eqb}
use Rattle.c_lexer.specs.declared.token.Constant.{Constant}
use Rattle.c_lexer.specs.declared.token.Constant.TheVariants as constant
use Rattle.c_lexer.specs.declared.token.TokenKind.TheVariants as k
use Rattle.c_lexer.specs.declared.token.Keyword.TheVariants as keyword
use Rattle.c_lexer.specs.declared.token.Sign.{Sign}
use Rattle.c_lexer.specs.declared.token.Sign.TheVariants as sign
use Rattle.predictive_grammar.specs.Forms.{give}
use Rattle.c_tree.specs.declared.names.CType.{CType}
use Rattle.c_tree.specs.declared.operators.BinaryOperator.{BinaryOperator}
use Rattle.c_tree.specs.declared.operators.Level.{Level}
use Rattle.c_tree.specs.declared.operators.Level.TheVariants as level
use Rattle.c_tree.specs.declared.operators.Prefix.{Prefix}
use Rattle.c_tree.specs.declared.operators.Prefix.TheVariants as prefix
use Rattle.c_tree.specs.declared.operators.PrefixOperator.{PrefixOperator}
use Rattle.c_tree.specs.declared.code.Expr.{Expr}
use Rattle.c_tree.specs.declared.code.Shape as shapes
use Rattle.c_tree.specs.declared.code.Shape.TheVariants as shape
use Rattle.c_tree.specs.declared.code.Link.{Link}
use Rattle.c_tree.specs.declared.code.Choice.{Choice}
use Rattle.c_tree.specs.declared.code.Suffix.{Suffix, out-Suffix}
use Rattle.c_tree.specs.declared.code.Suffix as suffixes
use Rattle.c_tree.specs.declared.code.Suffix.TheVariants as suffix
use Rattle.c_tree.specs.Words.{Terminal, Of, Token, Word, IsSign, IsWord, IsName, join}
use Rattle.c_tree.specs.Words.{at as at_token}
use Rattle.c_tree.specs.Kinds.{level_of}
use Rattle.c_tree.specs.Names.{Names, role_of, Role, VariableName, Unknown}
use Rattle.c_tree.specs.Types.{ReadsType, is_object}
use Rattle.c_tree.specs.Make.{name_at, expr, bracketed, suffixed, prefixed, link, choice, chained, conditional}
use Rattle.c_tree.specs.Values as v
use Rattle.c_tree.specs.Values.{Reads, binary_of, prefix_of, tighter, is_place, is_deref, is_dot_layer, may_follow, may_precede, is_variable, value, last_choice, more_choices, chain, no_link, more_links, operand, tightest, no_prefix, more_prefixes, cast, postfixed, no_suffix, field, arrow, index, number, character, text, constant_name, variable, function, member, size_of, offset, brackets, no_argument, arguments, no_more, more_arguments}
use Rattle.c_grammar.specs.Sorts.{kind, on, OfSign, sign_number}
use Rattle.c_grammar.specs.Tests.{links, is_of_level, level_number, is_prefix, is_value_role, is_literal, is_field, sign_with, is_there}
use Rattle.c_grammar.specs.Trees.{operator_in, known_operator, prefix_in, sign_prefix, cast_prefix, with_prefixes, one_prefix, name_shape, name_value, literal_shape, literal, field_suffix, index_suffix}
use Rattle.c_grammar.specs.Parts.{What, tree_of, at, AnyType, Value, Choosing, ChoosingTail, Upto, Links, Operand, Prefixed, Place, Primary, Unnamed, Suffixes, Arguments, MoreArguments}
use Rattle.c_grammar.specs.Grammar.{form, upto_behind, tail_behind, just, cast_or_operand, suffixes_behind, place_behind}
use Rattle.c_grammar.proofs.Told.{Told, gave, took, got, one, other, last, Texts, text_of}
use Rattle.c_grammar.proofs.Tokens.{passes, sign_passes, word_passes, name_passes, name_with_passes, with_terminal}
use Rattle.c_grammar.proofs.Meaning.{IfMust, starts_well, is_some}
use Rattle.c_grammar.proofs.FindTypes.{find_type}

-- what follows an operand inside a chain, up to a level
abbrev pub Tail : Names → Bool → Option Level → Expr → Expr → Word → Type 0
Tail ns c None a x w = (w ≡ []) × (x ≡ a)
Tail ns c (Some m) a x w = Texts (at ns (Upto m c x)) w a

-- suffixes: a constant has none
abbrev pub FoundSuffixes : Names → Bool → Word → List Suffix → Type 0
FoundSuffixes ns true w xs = (w ≡ []) × (xs ≡ [])
FoundSuffixes ns false w xs = (dot must : Bool) → starts_well dot xs ≡ true → IfMust must (is_some xs) → Texts (at ns (Suffixes dot must)) w xs

abbrev pub FoundArguments : Names → Bool → Word → List Expr → Type 0
FoundArguments ns true w x = Unit {0}
FoundArguments ns false w x = Texts (at ns Arguments) w x

abbrev pub FoundMore : Names → Bool → Word → List Expr → Type 0
FoundMore ns true w x = Unit {0}
FoundMore ns false w x = Texts (at ns MoreArguments) w x

-- how an operand begins without operators and suffixes: with a name, with what is no name, or with a bracket
pub data PrimaryStart (ns : Names) (c : Bool) : Word → Expr → Type 0 where
  name_start : (t : Token) → IsName t → is_value_role c (role_of ns t.bytes) ≡ true → PrimaryStart ns c (t ∷ []) (name_value ns t)
  unnamed_start : {w : Word} {a : Expr} → Texts (at ns Unnamed) w a → PrimaryStart ns c w a
  bracket_start : (t s : Token) {u : Word} {a : Expr} → IsSign t sign.OpenParen → Texts (at ns (Value c)) u a → IsSign s sign.CloseParen → PrimaryStart ns c (t ∷ (u ++ (s ∷ []))) (bracketed (join (at_token t) (at_token s)) a)

-- the same with suffixes behind it
pub data OperandStart (ns : Names) (c : Bool) : Word → Expr → Type 0 where
  operand_is : {u : Word} (w : Word) {a : Expr} (xs : List Suffix) → PrimaryStart ns c u a → FoundSuffixes ns c w xs → may_follow a xs ≡ true → OperandStart ns c (u ++ w) (suffixed a xs)

-- the same with operators before it: how the first begins
pub data PrefixedStart (ns : Names) (c : Bool) : Word → (List PrefixOperator × Expr) → Type 0 where
  sign_start : (t : Token) {w : Word} {r : List PrefixOperator × Expr} → on ns (is_prefix c) (kind t) ≡ true → Texts (at ns (Prefixed c)) w r → PrefixedStart ns c (t ∷ w) (one_prefix (sign_prefix t) r)
  address_start : (t : Token) {w : Word} {r : List PrefixOperator × Expr} → c ≡ false → IsSign t sign.Ampersand → Texts (at ns Place) w r → PrefixedStart ns c (t ∷ w) (one_prefix (sign_prefix t) r)
  cast_start : (t s : Token) {u w : Word} {y : CType} {r : List PrefixOperator × Expr} → IsSign t sign.OpenParen → Texts (at ns (AnyType false true)) u y → IsSign s sign.CloseParen → Texts (at ns (Prefixed c)) w r
      → PrefixedStart ns c (t ∷ (u ++ (s ∷ w))) (one_prefix (cast_prefix t y s) r)
  operand_start : {w : Word} {a : Expr} → OperandStart ns c w a → PrefixedStart ns c w ([], a)

-- An operand with the operators before it, and what follows it.
pub record Split (ns : Names) (c : Bool) (whole : Word) (Q : Expr → Word → Type 0) : Type 0 where
  pub word : Word
  pub rest : Word
  pub operand : List PrefixOperator × Expr
  pub same : whole ≡ word ++ rest
  pub prefixed : PrefixedStart ns c word operand
  pub tail : Q (with_prefixes operand) rest

-- a value, with its choices
pub record FoundValue (ns : Names) (c : Bool) (w : Word) (x : Expr) : Type 0 where
  pub parts : List Choice × Expr
  pub tree : x ≡ conditional parts.0 parts.1
  pub split : Split ns c w (λ y u. Texts (at ns (ChoosingTail c y)) u parts)

-- how the forms read each part
abbrev pub Found : (ns : Names) (c : Bool) (p : v.Part) → Word → v.tree_of p → Type 0
Found ns c v.Value w x = FoundValue ns c w x
Found ns c v.Choosing w x = Split ns c w (λ y u. Texts (at ns (ChoosingTail c y)) u x)
Found ns c (v.Chained l) w x = Split ns c w (λ y u. Texts (at ns (Upto l c y)) u x)
Found ns c (v.Links l) w x = Texts (at ns (Links l c)) w x
Found ns c (v.Operand l) w x = Split ns c w (λ y u. Tail ns c (tighter l) x y u)
Found ns c v.Prefixed w x = PrefixedStart ns c w x
Found ns c v.Postfixed w x = OperandStart ns c w x
Found ns c v.Suffixes w x = FoundSuffixes ns c w x
Found ns c v.Primary w x = PrimaryStart ns c w x
Found ns c v.Arguments w x = FoundArguments ns c w x
Found ns c v.MoreArguments w x = FoundMore ns c w x

-- 1. Operands

pub starts_told : (a : Expr) (xs : List Suffix) → may_follow a xs ≡ true → starts_well (is_place a) xs ≡ true
starts_told a [] e = refl
starts_told a (x ∷ xs) e = e

suffixes_told : (ns : Names) (c : Bool) {r : What} (f : Expr → tree_of r) (a : Expr) (w : Word) (xs : List Suffix) → FoundSuffixes ns c w xs → may_follow a xs ≡ true
    → Told Texts (at ns r) (suffixes_behind ns c a f) w (f (suffixed a xs))
suffixes_told ns true {r = r} f a w xs d e = subst (λ (z : Word). Told Texts (at ns r) (give (f a)) z (f (suffixed a xs))) (sym d.0)
    (subst (λ (ys : List Suffix). Told Texts (at ns r) (give (f a)) [] (f (suffixed a ys))) (sym d.1) (gave (f a)))
suffixes_told ns false f a w xs d e = last xs (d (is_place a) false (starts_told a xs e) (λ i. absurd (true≢false (sym i)))) (gave (f (suffixed a xs)))

some_behind : (a : Expr) (xs : List Suffix) (b : Bool) → is_place a ≡ b → is_place (suffixed a xs) ≡ true → IfMust (not b) (is_some xs)
some_behind a [] true e f i = absurd (true≢false (sym i))
some_behind a [] false e f i = absurd (true≢false (sym f ∙ e))
some_behind a (x ∷ xs) b e f i = refl

place_told : (ns : Names) {r : What} (f : Expr → tree_of r) (a : Expr) (w : Word) (xs : List Suffix) → FoundSuffixes ns false w xs → may_follow a xs ≡ true → is_place (suffixed a xs) ≡ true
    → Told Texts (at ns r) (place_behind ns a f) w (f (suffixed a xs))
place_told ns f a w xs d e p = last xs (d (is_place a) (not (is_place a)) (starts_told a xs e) (some_behind a xs (is_place a) refl p)) (gave (f (suffixed a xs)))

unnamed_told : (ns : Names) (c : Bool) {w : Word} {a : Expr} → Texts (at ns Unnamed) w a → Texts (at ns (Primary c)) w a
unfolding form
unnamed_told ns c {a = a} d = text_of ns (Primary c) (other (last a d (gave a)))

name_told : (ns : Names) (c : Bool) (t : Token) → IsName t → is_value_role c (role_of ns t.bytes) ≡ true → Texts (at ns (Primary c)) (t ∷ []) (name_value ns t)
unfolding form
name_told ns c t i e = text_of ns (Primary c) (one (took t (name_with_passes ns (is_value_role c) t i e) (gave (name_value ns t))))

operand_told : (ns : Names) (c : Bool) {w : Word} {x : Expr} → OperandStart ns c w x → Told Texts (at ns (Prefixed c)) (cast_or_operand ns c) w ([], x)
operand_told ns c (operand_is w {a = a} xs (name_start t i e) g m) = other (got (name_value ns t) (name_told ns c t i e) (suffixes_told ns c (λ b. ([], b)) (name_value ns t) w xs g m))
operand_told ns c (operand_is w {a = a} xs (unnamed_start d) g m) = other (got a (unnamed_told ns c d) (suffixes_told ns c (λ b. ([], b)) a w xs g m))
operand_told ns c (operand_is w xs (bracket_start t s {u = u} {a = a} i d e) g m) =
    subst (λ (z : Word). Told Texts (at ns (Prefixed c)) (cast_or_operand ns c) (t ∷ z) ([], suffixed (bracketed (join (at_token t) (at_token s)) a) xs)) (sym (append_assoc u (s ∷ []) w))
    (one (took t (sign_passes ns sign.OpenParen t i) (other (got a d (took s (sign_passes ns sign.CloseParen s e) (suffixes_told ns c (λ b. ([], b)) (bracketed (join (at_token t) (at_token s)) a) w xs g m))))))

-- a place
operand_place : (ns : Names) {w : Word} {x : Expr} → OperandStart ns false w x → is_place x ≡ true → Texts (at ns Place) w ([], x)
unfolding form
operand_place ns (operand_is w {a = a} xs (name_start t i e) g m) p = text_of ns Place (other (other (got (name_value ns t) (name_told ns false t i e) (place_told ns (λ b. ([], b)) (name_value ns t) w xs g m p))))
operand_place ns (operand_is w {a = a} xs (unnamed_start d) g m) p = text_of ns Place (other (other (got a (unnamed_told ns false d) (place_told ns (λ b. ([], b)) a w xs g m p))))
operand_place ns (operand_is w xs (bracket_start t s {u = u} {a = a} i d e) g m) p =
    subst (λ (z : Word). Texts (at ns Place) (t ∷ z) ([], suffixed (bracketed (join (at_token t) (at_token s)) a) xs)) (sym (append_assoc u (s ∷ []) w))
    (text_of ns Place (other (one (took t (sign_passes ns sign.OpenParen t i) (got a d (took s (sign_passes ns sign.CloseParen s e) (place_told ns (λ b. ([], b)) (bracketed (join (at_token t) (at_token s)) a) w xs g m p)))))))

-- 2. Operators before operands

with_cast : (ns : Names) (c : Bool) {w : Word} {x : List PrefixOperator × Expr} → Told Texts (at ns (Prefixed c)) (cast_or_operand ns c) w x → Texts (at ns (Prefixed c)) w x
unfolding form
with_cast ns true d = text_of ns (Prefixed true) (other d)
with_cast ns false d = text_of ns (Prefixed false) (other (other d))

sign_text : (ns : Names) (c : Bool) (t : Token) {w : Word} (x : List PrefixOperator × Expr) → on ns (is_prefix c) (kind t) ≡ true → Texts (at ns (Prefixed c)) w x → Texts (at ns (Prefixed c)) (t ∷ w) (one_prefix (sign_prefix t) x)
unfolding form
sign_text ns true t x e d = text_of ns (Prefixed true) (one (took t e (last x d (gave _))))
sign_text ns false t x e d = text_of ns (Prefixed false) (one (took t e (last x d (gave _))))

address_text : (ns : Names) (c : Bool) (t : Token) {w : Word} (x : List PrefixOperator × Expr) → c ≡ false → IsSign t sign.Ampersand → Texts (at ns Place) w x → Texts (at ns (Prefixed c)) (t ∷ w) (one_prefix (sign_prefix t) x)
unfolding form
address_text ns true t x f e d = absurd (true≢false f)
address_text ns false t x f e d = text_of ns (Prefixed false) (other (one (took t (sign_passes ns sign.Ampersand t e) (last x d (gave _)))))

pub prefixed_text : (ns : Names) (c : Bool) {w : Word} {x : List PrefixOperator × Expr} → PrefixedStart ns c w x → Texts (at ns (Prefixed c)) w x
prefixed_text ns c (sign_start t {r = r} e d) = sign_text ns c t r e d
prefixed_text ns c (address_start t {r = r} f e d) = address_text ns c t r f e d
prefixed_text ns c (cast_start t s {y = y} {r = r} e d f g) =
    with_cast ns c (one (took t (sign_passes ns sign.OpenParen t e) (one (got y d (took s (sign_passes ns sign.CloseParen s f) (last r g (gave _)))))))
prefixed_text ns c (operand_start d) = with_cast ns c (operand_told ns c d)

deref_text : (ns : Names) (t : Token) {w : Word} (x : List PrefixOperator × Expr) → IsSign t sign.Star → Texts (at ns (Prefixed false)) w x → Texts (at ns Place) (t ∷ w) (one_prefix (sign_prefix t) x)
unfolding form
deref_text ns t x e d = text_of ns Place (one (took t (sign_passes ns sign.Star t e) (last x d (gave _))))

-- the outermost operator of a place is `*`
pub place_is_deref : (p : PrefixOperator) (x : List PrefixOperator × Expr) → is_place (with_prefixes (one_prefix p x)) ≡ is_deref p.prefix
unfolding shapes.out-Shape denote.Hole.Carrier.out
place_is_deref p x = refl

pub deref_is_star : (x : Terminal) → is_deref (prefix_in x) ≡ true → x ≡ Of (k.Sign sign.Star)
deref_is_star (Of (k.Sign sign.Star)) e = refl
deref_is_star (Of (k.Sign sign.OpenBrace)) e = absurd (true≢false (sym e))
deref_is_star _ e = absurd (true≢false (sym e))

pub place_text : (ns : Names) {w : Word} {x : List PrefixOperator × Expr} → PrefixedStart ns false w x → is_place (with_prefixes x) ≡ true → Texts (at ns Place) w x
place_text ns (sign_start t {r = r} e d) p = deref_text ns t r (deref_is_star t.terminal (sym (place_is_deref (sign_prefix t) r) ∙ p)) d
place_text ns (address_start t {r = r} f e d) p = absurd (true≢false (sym p ∙ place_is_deref (sign_prefix t) r ∙ ap (λ (x : Terminal). is_deref (prefix_in x)) e))
place_text ns (cast_start t s {y = y} {r = r} e d f g) p = absurd (true≢false (sym p ∙ place_is_deref (cast_prefix t y s) r))
place_text ns (operand_start d) p = operand_place ns d p

-- what a sign before an operand is
data SignIs (c : Bool) (s : Sign) (p : Prefix) : Type 0 where
  plain_sign : prefix_in (Of (k.Sign s)) ≡ p → (sign_with (λ s. is_there (prefix_of c s)) (OfSign s) && not (sign_number sign.Ampersand == sign_number s)) ≡ true → SignIs c s p
  address_sign : prefix_in (Of (k.Sign s)) ≡ p → c ≡ false → s ≡ sign.Ampersand → p ≡ prefix.AddressOf → SignIs c s p

sign_is_one : (c : Bool) (s : Sign) (p : Prefix) → prefix_of c s ≡ Some p → SignIs c s p
sign_is_one true sign.Plus p e = let f : prefix.Plus ≡ p = cc in subst (λ (p : Prefix). SignIs true sign.Plus p) f (plain_sign refl refl)
sign_is_one true sign.Minus p e = let f : prefix.Minus ≡ p = cc in subst (λ (p : Prefix). SignIs true sign.Minus p) f (plain_sign refl refl)
sign_is_one true sign.Not p e = let f : prefix.Not ≡ p = cc in subst (λ (p : Prefix). SignIs true sign.Not p) f (plain_sign refl refl)
sign_is_one true sign.Tilde p e = let f : prefix.Complement ≡ p = cc in subst (λ (p : Prefix). SignIs true sign.Tilde p) f (plain_sign refl refl)
sign_is_one false sign.Plus p e = let f : prefix.Plus ≡ p = cc in subst (λ (p : Prefix). SignIs false sign.Plus p) f (plain_sign refl refl)
sign_is_one false sign.Minus p e = let f : prefix.Minus ≡ p = cc in subst (λ (p : Prefix). SignIs false sign.Minus p) f (plain_sign refl refl)
sign_is_one false sign.Not p e = let f : prefix.Not ≡ p = cc in subst (λ (p : Prefix). SignIs false sign.Not p) f (plain_sign refl refl)
sign_is_one false sign.Tilde p e = let f : prefix.Complement ≡ p = cc in subst (λ (p : Prefix). SignIs false sign.Tilde p) f (plain_sign refl refl)
sign_is_one false sign.Star p e = let f : prefix.Deref ≡ p = cc in subst (λ (p : Prefix). SignIs false sign.Star p) f (plain_sign refl refl)
sign_is_one false sign.Ampersand p e = let f : prefix.AddressOf ≡ p = cc in subst (λ (p : Prefix). SignIs false sign.Ampersand p) f (address_sign refl refl refl refl)
sign_is_one true _ p e = absurd cc
sign_is_one false _ p e = absurd cc

-- an operator with the place of its token
abbrev at_prefix : Prefix → Token → PrefixOperator
at_prefix p t = record { prefix = p; span = at_token t }

with_operator : (ns : Names) (c : Bool) (t : Token) {w : Word} {p : Prefix} (x : List PrefixOperator × Expr) → prefix_in t.terminal ≡ p → PrefixedStart ns c (t ∷ w) (one_prefix (sign_prefix t) x)
    → PrefixedStart ns c (t ∷ w) (one_prefix (at_prefix p t) x)
with_operator ns c t {w = w} x e d = subst (λ (p : Prefix). PrefixedStart ns c (t ∷ w) (one_prefix (at_prefix p t) x)) e d

address_found : (ns : Names) (c : Bool) (t : Token) {w : Word} (x : List PrefixOperator × Expr) → c ≡ false → IsSign t sign.Ampersand → is_place (with_prefixes x) ≡ true → PrefixedStart ns c w x
    → PrefixedStart ns c (t ∷ w) (one_prefix (sign_prefix t) x)
address_found ns true t x f e i d = absurd (true≢false f)
address_found ns false t x f e i d = address_start t refl e (place_text ns d i)

prefix_found : (ns : Names) (c : Bool) (t : Token) {s : Sign} {p : Prefix} {w : Word} (x : List PrefixOperator × Expr) → IsSign t s → SignIs c s p → may_precede p (with_prefixes x) ≡ true
    → PrefixedStart ns c w x → PrefixedStart ns c (t ∷ w) (one_prefix (at_prefix p t) x)
prefix_found ns c t x e (plain_sign f h) m d = with_operator ns c t x (ap prefix_in e ∙ f) (sign_start t (passes ns (is_prefix c) t e h) (prefixed_text ns c d))
prefix_found ns c t x e (address_sign f g h i) m d =
    with_operator ns c t x (ap prefix_in e ∙ f) (address_found ns c t x g (e ∙ ap (λ (s : Sign). Of (k.Sign s)) h) (ap (λ (p : Prefix). may_precede p (with_prefixes x)) (sym i) ∙ m) d)

-- 3. Chains and choices

choosing_text : (ns : Names) (c : Bool) {w : Word} {x : List Choice × Expr} → Found ns c v.Choosing w x → Texts (at ns (Choosing c)) w x
unfolding form
choosing_text ns c {w = w} {x = x} s = subst (λ (z : Word). Texts (at ns (Choosing c)) z x) (sym s.same) (text_of ns (Choosing c) (got s.operand (prefixed_text ns c s.prefixed) (last x s.tail (gave x))))

last_text : (ns : Names) (c : Bool) {w : Word} {a x : Expr} → Texts (at ns (Upto level.Or c a)) w x → Texts (at ns (ChoosingTail c a)) w ([], x)
unfolding form
last_text ns c {a = a} {x = x} d = text_of ns (ChoosingTail c a) (last x d (other (gave ([], x))))

more_text : (ns : Names) (c : Bool) {w y z : Word} {a x b : Expr} {r : List Choice × Expr} (t s : Token) → Texts (at ns (Upto level.Or c a)) w x → IsSign t sign.Question → Texts (at ns (Value c)) y b → IsSign s sign.Colon
    → Texts (at ns (Choosing c)) z r → Texts (at ns (ChoosingTail c a)) (w ++ (t ∷ (y ++ (s ∷ z)))) (choice x b ∷ r.0, r.1)
unfolding form
more_text ns c {a = a} {x = x} {b = b} {r = r} t s d e g f h =
    text_of ns (ChoosingTail c a) (got x d (one (took t (sign_passes ns sign.Question t e) (got b g (took s (sign_passes ns sign.Colon s f) (last r h (gave (choice x b ∷ r.0, r.1))))))))

upto_told : (ns : Names) (c : Bool) (l : Level) (m : Option Level) (x a : Expr) (u w : Word) (ls : List Link) → Tail ns c m a x u → Texts (at ns (Links l c)) w ls
    → Told Texts (at ns (Upto l c x)) (upto_behind ns m c x (λ b. just ns (Links l c) (λ ls. chained b ls))) (u ++ w) (chained a ls)
upto_told ns c l None x a u w ls d g =
    subst (λ (z : Word). Told Texts (at ns (Upto l c x)) (just ns (Links l c) (λ ls. chained x ls)) (z ++ w) (chained a ls)) (sym d.0)
    (subst (λ (y : Expr). Told Texts (at ns (Upto l c x)) (just ns (Links l c) (λ ls. chained x ls)) w (chained y ls)) d.1 (last ls g (gave (chained x ls))))
upto_told ns c l (Some m) x a u w ls d g = got a d (last ls g (gave (chained a ls)))

chain_found : (ns : Names) (c : Bool) (l : Level) {u w : Word} (a : Expr) {ls : List Link} → Found ns c (v.Operand l) u a → Texts (at ns (Links l c)) w ls → Found ns c (v.Chained l) (u ++ w) (chained a ls)
unfolding form
chain_found ns c l {u = u} {w = w} a {ls = ls} s g = record {
  word = s.word;
  rest = s.rest ++ w;
  operand = s.operand;
  same = ap (λ (z : Word). z ++ w) s.same ∙ append_assoc s.word s.rest w;
  prefixed = s.prefixed;
  tail = text_of ns (Upto l c (with_prefixes s.operand)) (upto_told ns c l (tighter l) (with_prefixes s.operand) a s.rest w ls s.tail g);
}

tail_told : (ns : Names) (c : Bool) (l : Level) (m : Option Level) (x a : Expr) (u : Word) → Tail ns c m a x u → Told Texts (at ns (Operand l c)) (tail_behind ns m c x (λ a. a)) u a
tail_told ns c l None x a u d =
    subst (λ (z : Word). Told Texts (at ns (Operand l c)) (give x) z a) (sym d.0) (subst (λ (y : Expr). Told Texts (at ns (Operand l c)) (give x) [] y) d.1 (gave x))
tail_told ns c l (Some m) x a u d = last a d (gave a)

operand_text : (ns : Names) (c : Bool) (l : Level) {w : Word} {a : Expr} → Found ns c (v.Operand l) w a → Texts (at ns (Operand l c)) w a
unfolding form
operand_text ns c l {a = a} s = subst (λ (z : Word). Texts (at ns (Operand l c)) z a) (sym s.same)
    (text_of ns (Operand l c) (got s.operand (prefixed_text ns c s.prefixed) (tail_told ns c l (tighter l) (with_prefixes s.operand) a s.rest s.tail)))

no_links_text : (ns : Names) (c : Bool) (l : Level) → Texts (at ns (Links l c)) [] []
unfolding form
no_links_text ns c l = text_of ns (Links l c) (other (gave []))

link_passes : (ns : Names) (l : Level) (t : Token) {s : Sign} {o : BinaryOperator} → IsSign t s → binary_of s ≡ Some o → level_of o ≡ l → on ns (links l) (kind t) ≡ true
link_passes ns l t {s = s} {o = o} e f g = passes ns (links l) t e (ap (is_of_level l) f ∙ eq-eqb (level_number (level_of o)) (level_number l) (ap level_number g))

same_operator : (t : Token) {s : Sign} {o : BinaryOperator} → IsSign t s → binary_of s ≡ Some o → operator_in t.terminal ≡ o
same_operator t e f = ap operator_in e ∙ ap known_operator f

links_text : (ns : Names) (c : Bool) (l : Level) (t : Token) {o : BinaryOperator} {u w : Word} {b : Expr} {ls : List Link} → on ns (links l) (kind t) ≡ true → operator_in t.terminal ≡ o → Texts (at ns (Operand l c)) u b
    → Texts (at ns (Links l c)) w ls → Texts (at ns (Links l c)) (t ∷ (u ++ w)) (link o b ∷ ls)
unfolding form
links_text ns c l t {o = o} {u = u} {w = w} {b = b} {ls = ls} e f d g = subst (λ (o : BinaryOperator). Texts (at ns (Links l c)) (t ∷ (u ++ w)) (link o b ∷ ls)) f
    (text_of ns (Links l c) (one (took t e (got b d (last ls g (gave (link (operator_in t.terminal) b ∷ ls)))))))

-- 4. Suffixes

no_suffix_found : (ns : Names) (c : Bool) → FoundSuffixes ns c [] []
unfolding form
no_suffix_found ns true = (refl, refl)
no_suffix_found ns false = go
  where
    go : (dot must : Bool) → starts_well dot [] ≡ true → IfMust must false → Texts (at ns (Suffixes dot must)) [] []
    go dot true e m = absurd (true≢false (sym (m refl)))
    go dot false e m = text_of ns (Suffixes dot false) (other (other (gave [])))

field_told : (ns : Names) (dot must : Bool) (t n : Token) {w : Word} (xs : List Suffix) → on ns (is_field dot) (kind t) ≡ true → IsName n → Texts (at ns (Suffixes true false)) w xs
    → Texts (at ns (Suffixes dot must)) (t ∷ n ∷ w) (field_suffix t.terminal (name_at n) ∷ xs)
unfolding form
field_told ns dot true t n xs e i d = text_of ns (Suffixes dot true) (one (took t e (took n (name_passes ns n i) (last xs d (gave _)))))
field_told ns dot false t n xs e i d = text_of ns (Suffixes dot false) (one (took t e (took n (name_passes ns n i) (last xs d (gave _)))))

index_told : (ns : Names) (dot must : Bool) (t s : Token) {u w : Word} (i : Expr) (xs : List Suffix) → IsSign t sign.OpenBracket → Texts (at ns (Value false)) u i → IsSign s sign.CloseBracket
    → Texts (at ns (Suffixes true false)) w xs → Texts (at ns (Suffixes dot must)) (t ∷ (u ++ (s ∷ w))) (index_suffix t i s ∷ xs)
unfolding form
index_told ns dot true t s i xs e d f g =
    text_of ns (Suffixes dot true) (other (took t (sign_passes ns sign.OpenBracket t e) (got i d (took s (sign_passes ns sign.CloseBracket s f) (last xs g (gave _))))))
index_told ns dot false t s i xs e d f g =
    text_of ns (Suffixes dot false) (other (one (took t (sign_passes ns sign.OpenBracket t e) (got i d (took s (sign_passes ns sign.CloseBracket s f) (last xs g (gave _)))))))

starts_anyhow : (xs : List Suffix) → starts_well true xs ≡ true
starts_anyhow [] = refl
starts_anyhow (x ∷ xs) = or_true (not (is_dot_layer (out-Suffix x)))
  where
    or_true : (b : Bool) → (b || true) ≡ true
    or_true true = refl
    or_true false = refl

-- those behind others
suffixes_text : (ns : Names) (w : Word) (xs : List Suffix) → FoundSuffixes ns false w xs → Texts (at ns (Suffixes true false)) w xs
suffixes_text ns w xs d = d true false (starts_anyhow xs) (λ i. absurd (true≢false (sym i)))

field_found : (ns : Names) (c : Bool) (t n : Token) (w : Word) (xs : List Suffix) → c ≡ false → IsSign t sign.Dot → IsName n → FoundSuffixes ns c w xs → FoundSuffixes ns c (t ∷ n ∷ w) (suffix.Field (name_at n) ∷ xs)
unfolding suffixes.out-Suffix denote.Hole.Carrier.out
field_found ns true t n w xs f e i d = absurd (true≢false f)
field_found ns false t n w xs f e i d = λ dot must h m. subst (λ (x : Terminal). Texts (at ns (Suffixes dot must)) (t ∷ n ∷ w) (field_suffix x (name_at n) ∷ xs)) e
    (field_told ns dot must t n xs (passes ns (is_field dot) t e (ap (λ (b : Bool). b && true) h)) i (suffixes_text ns w xs d))

arrow_found : (ns : Names) (c : Bool) (t n : Token) (w : Word) (xs : List Suffix) → c ≡ false → IsSign t sign.Arrow → IsName n → FoundSuffixes ns c w xs → FoundSuffixes ns c (t ∷ n ∷ w) (suffix.Arrow (name_at n) ∷ xs)
arrow_found ns true t n w xs f e i d = absurd (true≢false f)
arrow_found ns false t n w xs f e i d = λ dot must h m. subst (λ (x : Terminal). Texts (at ns (Suffixes dot must)) (t ∷ n ∷ w) (field_suffix x (name_at n) ∷ xs)) e
    (field_told ns dot must t n xs (passes ns (is_field dot) t e refl) i (suffixes_text ns w xs d))

index_found : (ns : Names) (c : Bool) (t s : Token) {u : Word} (w : Word) {i : Expr} (xs : List Suffix) → c ≡ false → IsSign t sign.OpenBracket → Texts (at ns (Value c)) u i → IsSign s sign.CloseBracket → FoundSuffixes ns c w xs
    → FoundSuffixes ns c (t ∷ (u ++ (s ∷ w))) (index_suffix t i s ∷ xs)
index_found ns true t s w xs f e d g h = absurd (true≢false f)
index_found ns false t s w {i = i} xs f e d g h = λ dot must j m. index_told ns dot must t s i xs e d g (suffixes_text ns w xs h)

-- 5. What has no operator and no bracket in front

literal_text : (ns : Names) (t : Token) {x : Terminal} → t.terminal ≡ x → on ns is_literal (with_terminal t x) ≡ true → Texts (at ns Unnamed) (t ∷ []) (expr (literal_shape x t.bytes) (at_token t))
unfolding form
literal_text ns t e p = subst (λ (x : Terminal). Texts (at ns Unnamed) (t ∷ []) (expr (literal_shape x t.bytes) (at_token t))) e
    (text_of ns Unnamed (one (took t (passes ns is_literal t e p) (gave (literal t)))))

capital_is : (ns : Names) (t : Token) (x : Constant) → on ns is_literal (with_terminal t (Of (k.Constant x))) ≡ true
capital_is ns t constant.Null = refl
capital_is ns t _ = refl

name_found : (ns : Names) (c : Bool) (t : Token) {r : Role} → IsName t → role_of ns t.bytes ≡ r → is_value_role c r ≡ true → PrimaryStart ns c (t ∷ []) (expr (name_shape r (name_at t)) (at_token t))
name_found ns c t e f p = subst (λ (r : Role). PrimaryStart ns c (t ∷ []) (expr (name_shape r (name_at t)) (at_token t))) f (name_start t e (ap (is_value_role c) f ∙ p))

variable_found : (ns : Names) (c : Bool) (t : Token) (r : Role) → IsName t → role_of ns t.bytes ≡ r → is_variable c r ≡ true → PrimaryStart ns c (t ∷ []) (expr (shape.Variable (name_at t)) (at_token t))
variable_found ns true t VariableName e f p = absurd (true≢false (sym p))
variable_found ns false t VariableName e f p = name_found ns false t e f refl
variable_found ns true t Unknown e f p = name_found ns true t e f refl
variable_found ns false t Unknown e f p = name_found ns false t e f refl
variable_found ns true t _ e f p = absurd (true≢false (sym p))
variable_found ns false t _ e f p = absurd (true≢false (sym p))

size_text : (ns : Names) (t r s : Token) {w : Word} {y : CType} → IsWord t keyword.Sizeof → IsSign r sign.OpenParen → ReadsType ns true w y → is_object y ≡ true → IsSign s sign.CloseParen
    → Texts (at ns Unnamed) (t ∷ r ∷ (w ++ (s ∷ []))) (expr (shape.SizeOf y (join (at_token t) (at_token s))) (join (at_token t) (at_token s)))
unfolding form
size_text ns t r s {y = y} e f d o g = text_of ns Unnamed (other (one (took t (word_passes ns keyword.Sizeof t e) (took r (sign_passes ns sign.OpenParen r f)
    (got y (find_type ns true true d (λ i. o)) (took s (sign_passes ns sign.CloseParen s g) (gave _)))))))

offset_text : (ns : Names) (t r m n s : Token) {w : Word} {y : CType} → IsWord t keyword.StructOffset → IsSign r sign.OpenParen → ReadsType ns true w y → is_object y ≡ true → IsSign m sign.Comma → IsName n → IsSign s sign.CloseParen
    → Texts (at ns Unnamed) (t ∷ r ∷ (w ++ (m ∷ n ∷ s ∷ []))) (expr (shape.Offset y (name_at n) (join (at_token t) (at_token s))) (join (at_token t) (at_token s)))
unfolding form
offset_text ns t r m n s {y = y} e f d o g h i = text_of ns Unnamed (other (other (took t (word_passes ns keyword.StructOffset t e) (took r (sign_passes ns sign.OpenParen r f)
    (got y (find_type ns true true d (λ i. o)) (took m (sign_passes ns sign.Comma m g) (took n (name_passes ns n h) (took s (sign_passes ns sign.CloseParen s i) (gave _)))))))))

-- 6. Arguments

no_arguments_found : (ns : Names) (c : Bool) → FoundArguments ns c [] []
unfolding form
no_arguments_found ns true = tt
no_arguments_found ns false = text_of ns Arguments (other (gave []))

no_more_found : (ns : Names) (c : Bool) → FoundMore ns c [] []
unfolding form
no_more_found ns true = tt
no_more_found ns false = text_of ns MoreArguments (other (gave []))

arguments_found : (ns : Names) (c : Bool) {u : Word} (w : Word) {a : Expr} (xs : List Expr) → Texts (at ns (Value c)) u a → FoundMore ns c w xs → FoundArguments ns c (u ++ w) (a ∷ xs)
unfolding form
arguments_found ns true w xs d g = tt
arguments_found ns false w {a = a} xs d g = text_of ns Arguments (one (got a d (last xs g (gave (a ∷ xs)))))

more_found : (ns : Names) (c : Bool) (t : Token) {u : Word} (w : Word) {a : Expr} (xs : List Expr) → IsSign t sign.Comma → Texts (at ns (Value c)) u a → FoundMore ns c w xs → FoundMore ns c (t ∷ (u ++ w)) (a ∷ xs)
unfolding form
more_found ns true t w xs e d g = tt
more_found ns false t w {a = a} xs e d g = text_of ns MoreArguments (one (took t (sign_passes ns sign.Comma t e) (got a d (last xs g (gave (a ∷ xs))))))

-- 7. All parts

value_told : (ns : Names) (c : Bool) {w : Word} {r : List Choice × Expr} → Texts (at ns (Choosing c)) w r → Texts (at ns (Value c)) w (conditional r.0 r.1)
unfolding form
value_told ns c {r = r} d = text_of ns (Value c) (last r d (gave (conditional r.0 r.1)))

pub value_text : (ns : Names) (c : Bool) {w : Word} {x : Expr} → FoundValue ns c w x → Texts (at ns (Value c)) w x
value_text ns c {w = w} f = subst (λ (y : Expr). Texts (at ns (Value c)) w y) (sym f.tree) (value_told ns c (choosing_text ns c f.split))

pub find : {ns : Names} {c : Bool} {p : v.Part} {w : Word} {x : v.tree_of p} → Reads ns c p w x → Found ns c p w x
find {ns = ns} {c = c} (value {cs = cs} {e = e} d) = record { parts = (cs, e); tree = refl; split = find d }
find {ns = ns} {c = c} (last_choice d) = let s = find d in record { word = s.word; rest = s.rest; operand = s.operand; same = s.same; prefixed = s.prefixed; tail = last_text ns c s.tail }
find {ns = ns} {c = c} (more_choices t q {u = u} {v = y} {w = z} d e g f h) =
    let s = find d in record {
      word = s.word;
      rest = s.rest ++ (t ∷ (y ++ (q ∷ z)));
      operand = s.operand;
      same = append_assoc u (t ∷ y) (q ∷ z) ∙ ap (λ (x : Word). x ++ (t ∷ (y ++ (q ∷ z)))) s.same ∙ append_assoc s.word s.rest (t ∷ (y ++ (q ∷ z)));
      prefixed = s.prefixed;
      tail = more_text ns c t q s.tail e (value_text ns c (find g)) f (choosing_text ns c (find h));
    }
find {ns = ns} {c = c} (chain {l = l} {a = a} d g) = chain_found ns c l a (find d) (find g)
find {ns = ns} {c = c} (no_link {l = l}) = no_links_text ns c l
find {ns = ns} {c = c} (more_links {t = t} {l = l} e f g d h) = links_text ns c l t (link_passes ns l t e f g) (same_operator t e f) (operand_text ns c l (find d)) (find h)
find {ns = ns} {c = c} (operand {l = l} {m = m} {a = a} e d) =
    let s = find d in record {
      word = s.word;
      rest = s.rest;
      operand = s.operand;
      same = s.same;
      prefixed = s.prefixed;
      tail = subst (λ (o : Option Level). Tail ns c o a (with_prefixes s.operand) s.rest) (sym e) s.tail;
    }
find {ns = ns} {c = c} (tightest {w = w} {ps = ps} {a = a} d) = record { word = w; rest = []; operand = (ps, a); same = sym (append-nil w); prefixed = find d; tail = (refl, refl) }
find (no_prefix d) = operand_start (find d)
find {ns = ns} {c = c} (more_prefixes {t = t} {s = s} {p = p} {ps = ps} {a = a} e f d m) = prefix_found ns c t (ps, a) e (sign_is_one c s p f) m (find d)
find {ns = ns} {c = c} (cast {t = t} s e d o f g) = cast_start t s e (find_type ns false true d (λ i. o)) f (prefixed_text ns c (find g))
find (postfixed {v = w} {xs = xs} d g m) = operand_is w xs (find d) (find g) m
find {ns = ns} {c = c} no_suffix = no_suffix_found ns c
find {ns = ns} {c = c} (field {t = t} {n = n} {w = w} {xs = xs} f e i d) = field_found ns c t n w xs f e i (find d)
find {ns = ns} {c = c} (arrow {t = t} {n = n} {w = w} {xs = xs} f e i d) = arrow_found ns c t n w xs f e i (find d)
find {ns = ns} {c = c} (index {t = t} s {w = w} {xs = xs} f e d g h) = index_found ns c t s w xs f e (value_text ns c (find d)) g (find h)
find {ns = ns} {c = c} (number {t = t} e) = unnamed_start (literal_text ns t e refl)
find {ns = ns} {c = c} (character {t = t} e) = unnamed_start (literal_text ns t e refl)
find {ns = ns} {c = c} (text {t = t} e) = unnamed_start (literal_text ns t e refl)
find {ns = ns} {c = c} (constant_name {t = t} {c = x} e) = unnamed_start (literal_text ns t e (capital_is ns t x))
find {ns = ns} {c = c} (variable {t = t} e h) = variable_found ns c t (role_of ns t.bytes) e refl h
find {ns = ns} {c = c} (function {t = t} e h) = name_found ns c t e h refl
find {ns = ns} {c = c} (member {t = t} e h) = name_found ns c t e h refl
find {ns = ns} {c = c} (size_of {t = t} {r = r} s e f d o g) = unnamed_start (size_text ns t r s e f d o g)
find {ns = ns} {c = c} (offset {t = t} {r = r} m n s e f d o g h i) = unnamed_start (offset_text ns t r m n s e f d o g h i)
find {ns = ns} {c = c} (brackets {t = t} s {w = w} {a = a} e d f) = bracket_start t s e (value_text ns c (find d)) f
find {ns = ns} {c = c} no_argument = no_arguments_found ns c
find {ns = ns} {c = c} (arguments {v = w} {xs = xs} d g) = arguments_found ns c w xs (value_text ns c (find d)) (find g)
find {ns = ns} {c = c} no_more = no_more_found ns c
find {ns = ns} {c = c} (more_arguments {t = t} {v = w} {xs = xs} e d g) = more_found ns c t w xs e (value_text ns c (find d)) (find g)
