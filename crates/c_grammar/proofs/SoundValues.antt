-- What forms of values read, are values.
use Rattle.std.proofs.Common.{◌≡◌, ℕ, ◌==◌, Bool, true, false, not, ◌&&◌, ◌||◌, List, [], ◌∷◌, ◌++◌, Option, Some, None, refl, sym, ap, subst, ◌∙◌, append-nil, append_assoc, true≢false}
use Rattle.c_lexer.specs.declared.token.Constant.TheVariants as constant
use Rattle.c_lexer.specs.declared.token.TokenKind.TheVariants as k
use Rattle.c_lexer.specs.declared.token.Keyword.TheVariants as keyword
use Rattle.c_lexer.specs.declared.token.Sign.{Sign}
use Rattle.c_lexer.specs.declared.token.Sign.TheVariants as sign
use Rattle.c_tree.specs.declared.operators.BinaryOperator.{BinaryOperator}
use Rattle.c_tree.specs.declared.operators.Level.{Level}
use Rattle.c_tree.specs.declared.operators.Level.TheVariants as level
use Rattle.c_tree.specs.declared.operators.PrefixOperator.{PrefixOperator}
use Rattle.c_tree.specs.declared.code.Expr.{Expr}
use Rattle.c_tree.specs.declared.code.Shape as shapes
use Rattle.c_tree.specs.declared.code.Suffix.{Suffix, out-Suffix}
use Rattle.c_tree.specs.declared.code.Suffix as suffixes
use Rattle.c_tree.specs.Words.{Terminal, Of, Token, Word, IsSign, IsName, join}
use Rattle.c_tree.specs.Words.{at as at_token}
use Rattle.c_tree.specs.Words as words
use Rattle.c_tree.specs.Kinds.{level_of}
use Rattle.c_tree.specs.Names.{Names, role_of, Role, TypeName, RowName, VariableName, FunctionName, MemberName, Unknown}
use Rattle.c_tree.specs.Make.{name_at, expr, bracketed, suffixed, chained}
use Rattle.c_tree.specs.Values as v
use Rattle.c_tree.specs.Values.{Reads, binary_of, prefix_of, tighter, is_place, is_deref, is_dot_layer, may_follow, may_precede, is_variable, value, last_choice, more_choices, chain, no_link, more_links, operand, tightest, no_prefix, more_prefixes, cast, postfixed, no_suffix, field, arrow, index, number, character, text, constant_name, variable, function, member, size_of, offset, brackets, no_argument, arguments, no_more, more_arguments}
use Rattle.c_grammar.specs.Sorts.{kind, on, OfSign, sign_number}
use Rattle.c_grammar.specs.Tests.{links, is_of_level, level_number, is_prefix, is_value_role, is_literal, is_field, sign_is, sign_with, is_there}
use Rattle.c_grammar.specs.Trees.{known_operator, operator_in, prefix_in, sign_prefix, with_prefixes, one_prefix, name_shape, literal, field_suffix}
use Rattle.c_grammar.specs.Parts.{What, tree_of, at, Value, Choosing, ChoosingTail, Upto, Links, Operand, Prefixed, Place, Primary, Unnamed, Suffixes, Arguments, MoreArguments}
use Rattle.c_grammar.specs.Grammar.{form, upto_behind, tail_behind, just, cast_or_operand, suffixes_behind, place_behind, index_behind}
use Rattle.c_grammar.proofs.Classes.{item_at, by_number}
use Rattle.c_grammar.proofs.Told.{Told, gave, took, got, one, other}
use Rattle.c_grammar.proofs.Tokens.{is_sign, is_word, is_name, is_name_with, with_terminal}
use Rattle.c_grammar.proofs.Meaning.{Means, Meant, Holds, IfMust, AreSuffixes, starts_well, is_some}

-- a reading of another word that is the same
pub at_word : {ns : Names} {c : Bool} {p : v.Part} {a : v.tree_of p} {u w : Word} → u ≡ w → Reads ns c p u a → Reads ns c p w a
at_word {ns = ns} {c = c} {p = p} {a = a} e d = subst (λ (z : Word). Reads ns c p z a) e d

pub then_nothing : {ns : Names} {c : Bool} {p : v.Part} {a : v.tree_of p} {u : Word} → Reads ns c p u a → Reads ns c p (u ++ []) a
then_nothing {u = u} d = at_word (sym (append-nil u)) d

pub sound_value : (ns : Names) (c : Bool) → Holds ns (Value c)
unfolding form
sound_value ns c w x (got r m (gave a)) = value (then_nothing m)

pub sound_choosing : (ns : Names) (c : Bool) → Holds ns (Choosing c)
unfolding form
sound_choosing ns c w x (got {u = u} o m (got {u = p} r n (gave a))) = at_word (ap (λ (z : Word). u ++ z) (sym (append-nil p))) (n u (tightest m))

pub sound_choosing_tail : (ns : Names) (c : Bool) (a : Expr) → Holds ns (ChoosingTail c a)
unfolding form
sound_choosing_tail ns c a w x (got {u = p} t m (one (took q e (got {u = y} b n (took s e2 (got {u = z} r o (gave i))))))) u d =
    at_word (append_assoc (u ++ p) (q ∷ y) (s ∷ (z ++ [])) ∙ append_assoc u p (q ∷ (y ++ (s ∷ (z ++ []))))) (more_choices q s (m u d) (is_sign ns sign.Question q e) n (is_sign ns sign.Colon s e2) (then_nothing o))
sound_choosing_tail ns c a w x (got {u = p} t m (other (gave i))) u d = at_word (ap (λ (z : Word). u ++ z) (sym (append-nil p))) (last_choice (m u d))

tightest_level : (l : Level) → tighter l ≡ None → l ≡ level.Product
tightest_level level.Product e = refl
tightest_level _ e = absurd cc

sound_upto_behind : (ns : Names) (l : Level) (m : Option Level) (c : Bool) (a : Expr) → tighter l ≡ m → (w : Word) (x : Expr)
    → Told Meant (at ns (Upto l c a)) (upto_behind ns m c a (λ b. just ns (Links l c) (λ ls. chained b ls))) w x → Means ns (Upto l c a) w x
sound_upto_behind ns l None c a e w x (got {u = p} ls m (gave i)) u d =
    at_word (ap (λ (z : Word). u ++ z) (sym (append-nil p))) (chain (subst (λ (l : Level). Reads ns c (v.Operand l) u a) (sym (tightest_level l e)) d) m)
sound_upto_behind ns l (Some n) c a e w x (got {u = p} b m (got {u = q} ls o (gave i))) u d =
    at_word (append_assoc u p (q ++ [])) (chain (operand e (m u d)) (then_nothing o))

pub sound_upto : (ns : Names) (l : Level) (c : Bool) (a : Expr) → Holds ns (Upto l c a)
unfolding form
sound_upto ns l c a w x d = sound_upto_behind ns l (tighter l) c a refl w x d

abbrev all_levels : List Level
all_levels = level.Product ∷ level.Sum ∷ level.Shift ∷ level.Relation ∷ level.Equality ∷ level.BitAnd ∷ level.BitXor ∷ level.BitOr ∷ level.And ∷ level.Or ∷ []

at_level : (l : Level) → item_at level.Or all_levels (level_number l) ≡ l
at_level level.Product = refl
at_level _ = refl

same_level : (l m : Level) → (level_number l == level_number m) ≡ true → l ≡ m
same_level = by_number level_number level.Or all_levels at_level

-- a sign of the level and its operator
pub record IsLink (l : Level) (t : Token) (o : BinaryOperator) : Type 0 where
  pub sign : Sign
  pub is : IsSign t sign
  pub operator : binary_of sign ≡ Some o
  pub level : level_of o ≡ l

link_told : (ns : Names) (l : Level) (t : Token) → on ns (links l) (kind t) ≡ true → IsLink l t (operator_in t.terminal)
link_told ns l t e = by_terminal t.terminal refl e
  where
    by_operator : (s : Sign) (o : Option BinaryOperator) → binary_of s ≡ o → is_of_level l o ≡ true → t.terminal ≡ Of (k.Sign s) → IsLink l t (operator_in t.terminal)
    by_operator s None f e i = absurd (true≢false (sym e))
    by_operator s (Some o) f e i = subst (λ (o : BinaryOperator). IsLink l t o) (sym (ap operator_in i ∙ ap known_operator f)) (record { sign = s; is = i; operator = f; level = same_level (level_of o) l e })

    by_terminal : (x : Terminal) → t.terminal ≡ x → on ns (links l) (with_terminal t x) ≡ true → IsLink l t (operator_in t.terminal)
    by_terminal (Of (k.Sign s)) i e = by_operator s (binary_of s) refl e i
    by_terminal (Of (k.Constant constant.Null)) i e = absurd (true≢false (sym e))
    by_terminal _ i e = absurd (true≢false (sym e))

pub sound_links : (ns : Names) (l : Level) (c : Bool) → Holds ns (Links l c)
unfolding form
sound_links ns l c w x (one (took t e (got b m (got ls n (gave a))))) = let i = link_told ns l t e in more_links i.is i.operator i.level m (then_nothing n)
sound_links ns l c w x (other (gave a)) = no_link

sound_tail_behind : (ns : Names) (l : Level) (m : Option Level) (c : Bool) (o : List PrefixOperator × Expr) → tighter l ≡ m → (u w : Word) (x : Expr) → Reads ns c v.Prefixed u o
    → Told Meant (at ns (Operand l c)) (tail_behind ns m c (with_prefixes o) (λ a. a)) w x → Reads ns c (v.Operand l) (u ++ w) x
sound_tail_behind ns l None c o e u w x d (gave a) = then_nothing (subst (λ (l : Level). Reads ns c (v.Operand l) u (with_prefixes o)) (sym (tightest_level l e)) (tightest d))
sound_tail_behind ns l (Some n) c o e u w x d (got {u = p} b m (gave a)) = at_word (ap (λ (z : Word). u ++ z) (sym (append-nil p))) (operand e (m u (tightest d)))

pub sound_operand : (ns : Names) (l : Level) (c : Bool) → Holds ns (Operand l c)
unfolding form
sound_operand ns l c w x (got {u = u} {v = p} o m d) = sound_tail_behind ns l (tighter l) c o refl u p x m d

-- the sign of an operator before an operand
pub record IsPrefix (c : Bool) (t : Token) : Type 0 where
  pub sign : Sign
  pub is : IsSign t sign
  pub operator : prefix_of c sign ≡ Some (prefix_in t.terminal)
  pub free : (a : Expr) → may_precede (prefix_in t.terminal) a ≡ true

by_prefix : (c : Bool) (s : Sign) → (sign_with (λ s. is_there (prefix_of c s)) (OfSign s) && not (sign_number sign.Ampersand == sign_number s)) ≡ true
    → (prefix_of c s ≡ Some (prefix_in (Of (k.Sign s)))) × ((a : Expr) → may_precede (prefix_in (Of (k.Sign s))) a ≡ true)
by_prefix true sign.Plus e = (refl, λ a. refl)
by_prefix true sign.Minus e = (refl, λ a. refl)
by_prefix true sign.Not e = (refl, λ a. refl)
by_prefix true sign.Tilde e = (refl, λ a. refl)
by_prefix false sign.Plus e = (refl, λ a. refl)
by_prefix false sign.Minus e = (refl, λ a. refl)
by_prefix false sign.Not e = (refl, λ a. refl)
by_prefix false sign.Tilde e = (refl, λ a. refl)
by_prefix false sign.Star e = (refl, λ a. refl)
by_prefix true _ e = absurd (true≢false (sym e))
by_prefix false _ e = absurd (true≢false (sym e))

pub prefix_told : (ns : Names) (c : Bool) (t : Token) → on ns (is_prefix c) (kind t) ≡ true → IsPrefix c t
prefix_told ns c t e = by_terminal t.terminal refl e
  where
    by_terminal : (x : Terminal) → t.terminal ≡ x → on ns (is_prefix c) (with_terminal t x) ≡ true → IsPrefix c t
    by_terminal (Of (k.Sign s)) i e = let p = by_prefix c s e in record {
      sign = s;
      is = i;
      operator = subst (λ (x : Terminal). prefix_of c s ≡ Some (prefix_in x)) (sym i) p.0;
      free = subst (λ (x : Terminal). (a : Expr) → may_precede (prefix_in x) a ≡ true) (sym i) p.1;
    }
    by_terminal (Of (k.Constant constant.Null)) i e = absurd (true≢false (sym e))
    by_terminal _ i e = absurd (true≢false (sym e))

pub may_follow_told : (a : Expr) (xs : List Suffix) → starts_well (is_place a) xs ≡ true → may_follow a xs ≡ true
may_follow_told a [] e = refl
may_follow_told a (x ∷ xs) e = e

pub sound_suffixes_behind : (ns : Names) (c : Bool) {r : What} (f : Expr → tree_of r) (a : Expr) (u w : Word) (x : tree_of r) → Reads ns c v.Primary u a
    → Told Meant (at ns r) (suffixes_behind ns c a f) w x → (y : Expr) × (x ≡ f y) × Reads ns c v.Postfixed (u ++ w) y
sound_suffixes_behind ns true f a u w x d (gave i) = (a, refl, postfixed d no_suffix refl)
sound_suffixes_behind ns false f a u w x d (got {u = p} xs m (gave i)) = (suffixed a xs, refl, at_word (ap (λ (z : Word). u ++ z) (sym (append-nil p))) (postfixed d m.reads (may_follow_told a xs m.starts)))

is_place_behind : (a : Expr) (xs : List Suffix) (b : Bool) → is_place a ≡ b → IfMust (not b) (is_some xs) → is_place (suffixed a xs) ≡ true
unfolding shapes.out-Shape denote.Hole.Carrier.out
is_place_behind a [] true e m = e
is_place_behind a [] false e m = absurd (true≢false (sym (m refl)))
is_place_behind a (x ∷ xs) b e m = refl

sound_place_behind : (ns : Names) {r : What} (f : Expr → tree_of r) (a : Expr) (u w : Word) (x : tree_of r) → Reads ns false v.Primary u a
    → Told Meant (at ns r) (place_behind ns a f) w x → (y : Expr) × (x ≡ f y) × Reads ns false v.Postfixed (u ++ w) y × (is_place y ≡ true)
sound_place_behind ns f a u w x d (got {u = p} xs m (gave i)) =
    (suffixed a xs, refl, at_word (ap (λ (z : Word). u ++ z) (sym (append-nil p))) (postfixed d m.reads (may_follow_told a xs m.starts)), is_place_behind a xs (is_place a) refl m.some)

-- a value in brackets
sound_brackets : {ns : Names} {c : Bool} {u : Word} {a : Expr} (t s : Token) → IsSign t sign.OpenParen → Reads ns c v.Value u a → IsSign s sign.CloseParen
    → Reads ns c v.Primary (t ∷ (u ++ (s ∷ []))) (bracketed (join (words.at t) (words.at s)) a)
sound_brackets t s e d f = brackets s e d f

to_prefixed : {ns : Names} {c : Bool} {w : Word} (x : List PrefixOperator × Expr) (y : Expr) → x ≡ ([], y) → Reads ns c v.Postfixed w y → Reads ns c v.Prefixed w x
to_prefixed {ns = ns} {c = c} {w = w} x y e d = subst (λ (z : List PrefixOperator × Expr). Reads ns c v.Prefixed w z) (sym e) (no_prefix d)

sound_cast_or_operand : (ns : Names) (c : Bool) (w : Word) (x : List PrefixOperator × Expr) → Told Meant (at ns (Prefixed c)) (cast_or_operand ns c) w x → Reads ns c v.Prefixed w x
sound_cast_or_operand ns c w x (one (took t e (one (got {u = u} y m (took s f (got {u = p} r n (gave i))))))) =
    cast s (is_sign ns sign.OpenParen t e) m.reads (m.fits refl) (is_sign ns sign.CloseParen s f) (then_nothing n)
sound_cast_or_operand ns c w x (one (took t e (other (got {u = u} a m (took {w = p} s f d))))) =
    let h = sound_suffixes_behind ns c (λ b. ([], b)) (bracketed (join (words.at t) (words.at s)) a) (t ∷ (u ++ (s ∷ []))) p x (brackets s (is_sign ns sign.OpenParen t e) m (is_sign ns sign.CloseParen s f)) d in
    at_word (ap (λ (z : Word). t ∷ z) (append_assoc u (s ∷ []) p)) (to_prefixed x h.0 h.1 h.2)
sound_cast_or_operand ns c w x (other (got {u = u} {v = p} a m d)) =
    let h = sound_suffixes_behind ns c (λ b. ([], b)) a u p x m d in to_prefixed x h.0 h.1 h.2

-- `&` before a place, and `*`
pub address : {ns : Names} {w : Word} (t : Token) (r : List PrefixOperator × Expr) → IsSign t sign.Ampersand → Reads ns false v.Prefixed w r → is_place (with_prefixes r) ≡ true
    → Reads ns false v.Prefixed (t ∷ w) (one_prefix (sign_prefix t) r)
address {ns = ns} {w = w} t r e d p = more_prefixes e (ap (λ (x : Terminal). Some (prefix_in x)) (sym e)) d (ap (λ (x : Terminal). may_precede (prefix_in x) (with_prefixes r)) e ∙ p)

pub star : {ns : Names} {w : Word} (t : Token) (r : List PrefixOperator × Expr) → IsSign t sign.Star → Reads ns false v.Prefixed w r → Reads ns false v.Prefixed (t ∷ w) (one_prefix (sign_prefix t) r)
star t r e d = more_prefixes e (ap (λ (x : Terminal). Some (prefix_in x)) (sym e)) d (ap (λ (x : Terminal). may_precede (prefix_in x) (with_prefixes r)) e)

pub is_star : (t : Token) (r : List PrefixOperator × Expr) → IsSign t sign.Star → is_place (with_prefixes (one_prefix (sign_prefix t) r)) ≡ true
unfolding shapes.out-Shape denote.Hole.Carrier.out
is_star t r e = ap (λ (x : Terminal). is_deref (prefix_in x)) e

pub to_place : (x : List PrefixOperator × Expr) (y : Expr) → x ≡ ([], y) → is_place y ≡ true → is_place (with_prefixes x) ≡ true
to_place x y e p = ap (λ (z : List PrefixOperator × Expr). is_place (with_prefixes z)) e ∙ p

pub sound_prefixed : (ns : Names) (c : Bool) → Holds ns (Prefixed c)
unfolding form
sound_prefixed ns true w x (one (took t e (got r m (gave a)))) = let i = prefix_told ns true t e in more_prefixes i.is i.operator (then_nothing m) (i.free (with_prefixes r))
sound_prefixed ns true w x (other d) = sound_cast_or_operand ns true w x d
sound_prefixed ns false w x (one (took t e (got r m (gave a)))) = let i = prefix_told ns false t e in more_prefixes i.is i.operator (then_nothing m) (i.free (with_prefixes r))
sound_prefixed ns false w x (other (one (took t e (got r m (gave a))))) = address t r (is_sign ns sign.Ampersand t e) (then_nothing m.0) m.1
sound_prefixed ns false w x (other (other d)) = sound_cast_or_operand ns false w x d

pub sound_place : (ns : Names) → Holds ns Place
unfolding form
sound_place ns w x (one (took t e (got r m (gave a)))) = (star t r (is_sign ns sign.Star t e) (then_nothing m), is_star t r (is_sign ns sign.Star t e))
sound_place ns w x (other (one (took t e (got {u = u} a m (took {w = p} s f d))))) =
    let h = sound_place_behind ns (λ b. ([], b)) (bracketed (join (words.at t) (words.at s)) a) (t ∷ (u ++ (s ∷ []))) p x (brackets s (is_sign ns sign.OpenParen t e) m (is_sign ns sign.CloseParen s f)) d in
    (at_word (ap (λ (z : Word). t ∷ z) (append_assoc u (s ∷ []) p)) (to_prefixed x h.0 h.1 h.2), to_place x h.0 h.1 h.3)
sound_place ns w x (other (other (got {u = u} {v = p} a m d))) = let h = sound_place_behind ns (λ b. ([], b)) a u p x m d in (to_prefixed x h.0 h.1 h.2, to_place x h.0 h.1 h.3)

pub by_name : (ns : Names) (c : Bool) (t : Token) (r : Role) → IsName t → role_of ns t.bytes ≡ r → is_value_role c r ≡ true → Reads ns c v.Primary (t ∷ []) (expr (name_shape r (name_at t)) (at_token t))
by_name ns c t FunctionName i e h = function i e
by_name ns c t MemberName i e h = member i e
by_name ns c t Unknown i e h = variable i (ap (is_variable c) e ∙ h)
by_name ns c t VariableName i e h = variable i (ap (is_variable c) e ∙ h)
by_name ns false t (TypeName m) i e h = absurd (true≢false (sym h))
by_name ns true t (TypeName m) i e h = absurd (true≢false (sym h))
by_name ns false t (RowName b) i e h = absurd (true≢false (sym h))
by_name ns true t (RowName b) i e h = absurd (true≢false (sym h))

by_literal : (ns : Names) (c : Bool) (x : Terminal) (w : List ℕ) (a b : ℕ) (l : Bool) → on ns is_literal (record { terminal = x; bytes = w; begins_line = l }) ≡ true
    → Reads ns c v.Primary (record { terminal = x; bytes = w; start = a; «end» = b; begins_line = l } ∷ []) (literal (record { terminal = x; bytes = w; start = a; «end» = b; begins_line = l }))
by_literal ns c (Of (k.Number n y)) w a b l e = number refl
by_literal ns c (Of (k.Character x)) w a b l e = character refl
by_literal ns c (Of k.Text) w a b l e = text refl
by_literal ns c (Of (k.Constant x)) w a b l e = constant_name refl
by_literal ns c _ w a b l e = absurd (true≢false (sym e))

pub sound_unnamed : (ns : Names) → Holds ns Unnamed
unfolding form
sound_unnamed ns w x (one (took t e (gave a))) c = by_literal ns c t.terminal t.bytes t.start t.end t.begins_line e
sound_unnamed ns w x (other (one (took t e (took r f (got y m (took s g (gave a))))))) c =
    size_of s (is_word ns keyword.Sizeof t e) (is_sign ns sign.OpenParen r f) m.reads (m.fits refl) (is_sign ns sign.CloseParen s g)
sound_unnamed ns w x (other (other (took t e (took r f (got y m (took q g (took n h (took s i (gave a))))))))) c =
    offset q n s (is_word ns keyword.StructOffset t e) (is_sign ns sign.OpenParen r f) m.reads (m.fits refl) (is_sign ns sign.Comma q g) (is_name ns n h) (is_sign ns sign.CloseParen s i)

pub sound_primary : (ns : Names) (c : Bool) → Holds ns (Primary c)
unfolding form
sound_primary ns c w x (one (took t e (gave a))) = let h = is_name_with ns (is_value_role c) t e in by_name ns c t (role_of ns t.bytes) h.0 refl h.1
sound_primary ns c w x (other (got a m (gave i))) = then_nothing (m c)

-- `.` or `->`, and a name
pub data IsField (dot : Bool) (t : Token) : Type 0 where
  dotted : dot ≡ true → IsSign t sign.Dot → IsField dot t
  arrowed : IsSign t sign.Arrow → IsField dot t

field_told : (ns : Names) (dot : Bool) (t : Token) → on ns (is_field dot) (kind t) ≡ true → IsField dot t
field_told ns dot t e = by_arrow (on ns (sign_is sign.Arrow) (kind t)) refl e
  where
    by_dot : (dot : Bool) → (dot && on ns (sign_is sign.Dot) (kind t)) ≡ true → IsField dot t
    by_dot true e = dotted refl (is_sign ns sign.Dot t e)
    by_dot false e = absurd (true≢false (sym e))

    by_arrow : (b : Bool) → on ns (sign_is sign.Arrow) (kind t) ≡ b → (b || (dot && on ns (sign_is sign.Dot) (kind t))) ≡ true → IsField dot t
    by_arrow true f e = arrowed (is_sign ns sign.Arrow t f)
    by_arrow false f e = by_dot dot e

-- any suffixes may stand behind others
starts_anyhow : (xs : List Suffix) → starts_well true xs ≡ true
starts_anyhow [] = refl
starts_anyhow (x ∷ xs) = or_true (not (is_dot_layer (out-Suffix x)))
  where
    or_true : (b : Bool) → (b || true) ≡ true
    or_true true = refl
    or_true false = refl

sound_field : (ns : Names) (dot must : Bool) (t n : Token) (w : Word) (xs : List Suffix) → IsField dot t → IsName n → Reads ns false v.Suffixes w xs → AreSuffixes ns dot must (t ∷ n ∷ w) (field_suffix t.terminal (name_at n) ∷ xs)
unfolding suffixes.out-Suffix denote.Hole.Carrier.out
sound_field ns dot must t n w xs (dotted d e) i r = record {
  reads = subst (λ (x : Terminal). Reads ns false v.Suffixes (t ∷ n ∷ w) (field_suffix x (name_at n) ∷ xs)) (sym e) (field refl e i r);
  starts = subst (λ (x : Terminal). starts_well dot (field_suffix x (name_at n) ∷ xs) ≡ true) (sym e) d;
  some = λ m. refl;
}
sound_field ns dot must t n w xs (arrowed e) i r = record {
  reads = subst (λ (x : Terminal). Reads ns false v.Suffixes (t ∷ n ∷ w) (field_suffix x (name_at n) ∷ xs)) (sym e) (arrow refl e i r);
  starts = subst (λ (x : Terminal). starts_well dot (field_suffix x (name_at n) ∷ xs) ≡ true) (sym e) refl;
  some = λ m. refl;
}

sound_index : (ns : Names) (dot must : Bool) (w : Word) (x : List Suffix) → Told Meant (at ns (Suffixes dot must)) (index_behind ns) w x → AreSuffixes ns dot must w x
unfolding suffixes.out-Suffix denote.Hole.Carrier.out
sound_index ns dot must w x (took t e (got i m (took s f (got xs n (gave a))))) =
    record { reads = index s refl (is_sign ns sign.OpenBracket t e) m (is_sign ns sign.CloseBracket s f) (then_nothing n.reads); starts = refl; some = λ e. refl }

pub sound_suffixes : (ns : Names) (dot must : Bool) → Holds ns (Suffixes dot must)
unfolding form
sound_suffixes ns dot true w x (one (took t e (took n f (got xs m (gave a))))) = sound_field ns dot true t n _ xs (field_told ns dot t e) (is_name ns n f) (then_nothing m.reads)
sound_suffixes ns dot true w x (other d) = sound_index ns dot true w x d
sound_suffixes ns dot false w x (one (took t e (took n f (got xs m (gave a))))) = sound_field ns dot false t n _ xs (field_told ns dot t e) (is_name ns n f) (then_nothing m.reads)
sound_suffixes ns dot false w x (other (one d)) = sound_index ns dot false w x d
sound_suffixes ns dot false w x (other (other (gave a))) = record { reads = no_suffix; starts = refl; some = λ e. absurd (true≢false (sym e)) }

pub sound_arguments : (ns : Names) → Holds ns Arguments
unfolding form
sound_arguments ns w x (one (got {u = u} a m (got {u = p} xs n (gave i)))) = at_word (ap (λ (z : Word). u ++ z) (sym (append-nil p))) (arguments m n)
sound_arguments ns w x (other (gave a)) = no_argument

pub sound_more_arguments : (ns : Names) → Holds ns MoreArguments
unfolding form
sound_more_arguments ns w x (one (took t e (got {u = u} a m (got {u = p} xs n (gave i))))) =
    at_word (ap (λ (z : Word). t ∷ (u ++ z)) (sym (append-nil p))) (more_arguments (is_sign ns sign.Comma t e) m n)
sound_more_arguments ns w x (other (gave a)) = no_more
