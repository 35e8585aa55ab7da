-- Types and values with the brackets that are needed nest no deeper than the tokens that are read as them.
use Rattle.std.proofs.Common.{◌≡◌, ◌∙◌, refl, sym, ap, subst, ℕ, zero, suc, ◌+◌, ◌<◌, ◌≤◌, nat_le, nat_lt, Bool, true, false, List, [], ◌∷◌, ◌++◌, map, append_assoc, append-nil, Option, Some, None, arith}
use Rattle.std.proofs.lemmas.Bool.{cond_both, le-leb}
use Rattle.c_lexer.specs.declared.token.TokenKind.TheVariants as k
use Rattle.c_lexer.specs.declared.token.Keyword.TheVariants as keyword
use Rattle.c_lexer.specs.declared.token.Sign.{Sign}
use Rattle.c_lexer.specs.declared.token.Sign.TheVariants as sign
use Rattle.c_tree.specs.declared.names.Base.{Base}
use Rattle.c_tree.specs.declared.names.Base.TheVariants as base
use Rattle.c_tree.specs.declared.names.CType.{CType}
use Rattle.c_tree.specs.declared.names.Span.{Span}
use Rattle.c_tree.specs.declared.operators.BinaryOperator.{BinaryOperator}
use Rattle.c_tree.specs.declared.operators.BinaryOperator.TheVariants as op
use Rattle.c_tree.specs.declared.operators.Level.{Level}
use Rattle.c_tree.specs.declared.operators.Level.TheVariants as level
use Rattle.c_tree.specs.declared.operators.Prefix.{Prefix}
use Rattle.c_tree.specs.declared.operators.PrefixOperator.{PrefixOperator}
use Rattle.c_tree.specs.declared.code.Expr.{Expr}
use Rattle.c_tree.specs.declared.code.Shape.{Shape}
use Rattle.c_tree.specs.declared.code.Shape.TheOpen.{Shape-F, Suffix-F}
use Rattle.c_tree.specs.declared.code.Suffix.{Suffix}
use Rattle.c_tree.specs.declared.code.Choice.{Choice}
use Rattle.c_tree.specs.declared.code.Link.{Link}
use Rattle.c_tree.specs.Words.{Of, Token, Word, IsSign, IsWord, at, join}
use Rattle.c_tree.specs.Kinds.{level_of}
use Rattle.c_tree.specs.Names.{Names}
use Rattle.c_tree.specs.Make.{name_at, expr, link, choice, chained, prefixed, suffixed, conditional, bracketed}
use Rattle.c_tree.specs.Types.{Consts, no_const, more_const, Stars, no_star, more_stars, BaseIs, void_is, int_is, char_is, named_is, ReadsType, type_is}
use Rattle.c_tree.specs.Values as v
use Rattle.c_tree.specs.Values.{binary_of, prefix_of, tighter}
use Rattle.c_printer.specs.declared.grade.Brackets.TheVariants.{Needed}
use Rattle.c_printer.specs.declared.grade.Grade.{Grade}
use Rattle.c_printer.specs.declared.grade.Place.{Place}
use Rattle.c_printer.specs.declared.grade.Place.TheVariants.{Anywhere, Chosen, Operand, BehindPrefix, BeforeSuffix}
use Rattle.c_printer.specs.Grades.{rank, grade_rank, binds}
use Rattle.c_printer.specs.Marks.{Marks, Name, ASign, Space, token, word, in_row}
use Rattle.c_printer.specs.PutValues.{Printed, PrintedLink, const_marks, base_marks, stars, star_marks, sign_of, prefix_marks, prefixes_marks, type_marks, cast_marks, in_brackets, placed, link_marks, printed, printed_link, suffix_marks, choice_marks, value_marks, spaced, print_shape, print_suffix, arguments_marks, more_arguments_marks}
use Rattle.c_printer.proofs.BareTrees.{shape_at, shape_layer, suffix_at, suffix_layer, printed_span, printed_at, choice_written, link_written, suffix_written_at}
use Rattle.c_printer.proofs.Nesting.{Under, nothing, append, both, grouped, Quiet, AllQuiet, quiet_append, quiet_under, same_quiet, one, a_name, a_keyword, a_sign, next, parens, squares, question, enclosed, unbracketed, enclosed_then, enclosed_marks}
use Rattle.c_printer.proofs.TypeReading.{word_append}

-- 1. Types

keyword_quiet : (t : Token) (w : Rattle.c_lexer.specs.declared.token.Keyword.Keyword) → IsWord t w → Quiet t.terminal
keyword_quiet t w i = same_quiet (Of (k.Keyword w)) t (λ o. refl) i

consts_quiet : {w : Word} {b : Bool} → Consts w b → AllQuiet w
consts_quiet no_const = tt
consts_quiet (more_const {t} i r) = (keyword_quiet t keyword.Const i, consts_quiet r)

stars_quiet : {w : Word} {n : ℕ} → Stars w n → AllQuiet w
stars_quiet no_star = tt
stars_quiet (more_stars {t} {u} {w} i c r) = (same_quiet (Of (k.Sign sign.Star)) t (λ o. refl) i, quiet_append u w (consts_quiet c) (stars_quiet r))

base_quiet : {ns : Names} {anyhow : Bool} {t : Token} {x : Base} → BaseIs ns anyhow t x → Quiet t.terminal
base_quiet (void_is {t} i) = keyword_quiet t keyword.Void i
base_quiet (int_is {t} i) = keyword_quiet t keyword.Int i
base_quiet (char_is {t} i) = keyword_quiet t keyword.Char i
base_quiet (named_is {t} i h) = same_quiet (Of k.Identifier) t (λ o. refl) i

const_put : (b : Bool) → AllQuiet (word (const_marks b))
const_put true = (λ o. refl, tt)
const_put false = tt

base_put : (x : Base) → AllQuiet (word (base_marks x))
base_put base.Void = (λ o. refl, tt)
base_put base.Int = (λ o. refl, tt)
base_put base.Char = (λ o. refl, tt)
base_put (base.Named x) = (λ o. refl, tt)

stars_put : (n : ℕ) → AllQuiet (word (stars n))
stars_put zero = tt
stars_put (suc n) = (λ o. refl, stars_put n)

star_put : (n : ℕ) → AllQuiet (word (star_marks n))
star_put zero = tt
star_put (suc n) = stars_put (suc n)

put_quiet : (a b : Marks) → AllQuiet (word a) → AllQuiet (word b) → AllQuiet (word (a ++ b))
put_quiet a b h i = subst AllQuiet (sym (word_append a b)) (quiet_append (word a) (word b) h i)

type_put : (c : CType) → AllQuiet (word (type_marks c))
type_put c = put_quiet (const_marks c.is_const ++ base_marks c.base) (star_marks c.stars) (put_quiet (const_marks c.is_const) (base_marks c.base) (const_put c.is_const) (base_put c.base)) (star_put c.stars)

-- tokens that are some
under_some : {q : Bool} (w z : Word) (t : Token) (v : Word) → w ≡ t ∷ v → AllQuiet w → AllQuiet z → Under q w z
under_some {q} w z t v e a b = subst (λ x. Under q x z) (sym e) (quiet_under q t v z (subst AllQuiet e a) b)

some_type : (u : Word) (t : Token) (v w : Word) → (s : Token) × (x : Word) × (u ++ t ∷ v ++ w ≡ s ∷ x)
some_type [] t v w = (t, v ++ w, refl)
some_type (s ∷ u) t v w = (s, u ++ t ∷ v ++ w, refl)

pub type_under : {q : Bool} {ns : Names} {anyhow : Bool} {w : Word} {c : CType} → ReadsType ns anyhow w c → Under q w (word (type_marks c))
type_under {q} {w = all} {c = d} (type_is {t} {u} {v = z} {w} {b} {c} {n} {x} cs is ds ss) =
    let some = some_type u t z w in
    under_some (u ++ t ∷ z ++ w) (word (type_marks d)) some.0 some.1 some.2
    (quiet_append (u ++ t ∷ z) w (quiet_append u (t ∷ z) (consts_quiet cs) (base_quiet is, consts_quiet ds)) (stars_quiet ss)) (type_put d)

-- 2. Operators

binary_quiet : (o : BinaryOperator) → Quiet (Of (k.Sign (sign_of o)))
binary_quiet op.Or = λ o. refl
binary_quiet op.And = λ o. refl
binary_quiet op.BitOr = λ o. refl
binary_quiet op.BitXor = λ o. refl
binary_quiet op.BitAnd = λ o. refl
binary_quiet op.Equal = λ o. refl
binary_quiet op.Unequal = λ o. refl
binary_quiet op.Less = λ o. refl
binary_quiet op.Greater = λ o. refl
binary_quiet op.AtMost = λ o. refl
binary_quiet op.AtLeast = λ o. refl
binary_quiet op.ShiftLeft = λ o. refl
binary_quiet op.ShiftRight = λ o. refl
binary_quiet op.Add = λ o. refl
binary_quiet op.Subtract = λ o. refl
binary_quiet op.Multiply = λ o. refl
binary_quiet op.Divide = λ o. refl
binary_quiet op.Remainder = λ o. refl

Back : Sign → Option BinaryOperator → Type 0
Back s None = Unit {0}
Back s (Some o) = sign_of o ≡ s

back : (s : Sign) → Back s (binary_of s)
unfolding Back
back sign.OrOr = refl
back sign.AndAnd = refl
back sign.Bar = refl
back sign.Caret = refl
back sign.Ampersand = refl
back sign.Equal = refl
back sign.NotEqual = refl
back sign.Less = refl
back sign.Greater = refl
back sign.LessEqual = refl
back sign.GreaterEqual = refl
back sign.ShiftLeft = refl
back sign.ShiftRight = refl
back sign.Plus = refl
back sign.Minus = refl
back sign.Star = refl
back sign.Slash = refl
back sign.Percent = refl
back s = tt

by_binary : (s : Sign) (o : BinaryOperator) → binary_of s ≡ Some o → sign_of o ≡ s
unfolding Back
by_binary s o h = subst (Back s) h (back s)

operator_under : (t : Token) (s : Sign) (o : BinaryOperator) → IsSign t s → binary_of s ≡ Some o → Under true (t ∷ []) (token (k.Sign (sign_of o)) [] ∷ [])
operator_under t s o i h = a_sign true t (sign_of o) (binary_quiet o) (i ∙ ap (λ x. Of (k.Sign x)) (sym (by_binary s o h)))

Signed : Sign → Option Prefix → Type 0
Signed s None = Unit {0}
Signed s (Some p) = (prefix_marks p ≡ ASign s ∷ []) × Quiet (Of (k.Sign s))

signed : (constant : Bool) (s : Sign) → Signed s (prefix_of constant s)
unfolding Signed
signed constant sign.Plus = (refl, λ o. refl)
signed constant sign.Minus = (refl, λ o. refl)
signed constant sign.Not = (refl, λ o. refl)
signed constant sign.Tilde = (refl, λ o. refl)
signed false sign.Star = (refl, λ o. refl)
signed false sign.Ampersand = (refl, λ o. refl)
signed constant s = tt

by_sign : (constant : Bool) (s : Sign) (p : Prefix) → prefix_of constant s ≡ Some p → (prefix_marks p ≡ ASign s ∷ []) × Quiet (Of (k.Sign s))
unfolding Signed
by_sign constant s p h = subst (Signed s) h (signed constant s)

Tight : Level → Option Level → Type 0
Tight l None = Unit {0}
Tight l (Some m) = rank m ≡ suc (rank l)

tight : (l : Level) → Tight l (tighter l)
unfolding Tight
tight level.Or = refl
tight level.And = refl
tight level.BitOr = refl
tight level.BitXor = refl
tight level.BitAnd = refl
tight level.Equality = refl
tight level.Relation = refl
tight level.Shift = refl
tight level.Sum = refl
tight level.Product = tt

by_level : (l m : Level) → tighter l ≡ Some m → rank m ≡ suc (rank l)
unfolding Tight
by_level l m h = subst (Tight l) h (tight l)

-- 3. Values at their places

-- tokens that are read where so tight a value is asked for nest as deep as what is written of it, with brackets where it is looser
pub record Fit (r : ℕ) (w : Word) (q : Printed) : Type 0 where
  pub bare : Under true w (word q.marks)
  pub enclosed : grade_rank q.grade < r → Under true w (word (in_brackets q.marks))

abbrev pub Fits : ℕ → Word → Expr → Type 0
Fits r w e = Fit r w (printed Needed e)

looser : (r n : ℕ) {w : Word} (e : Expr) → n ≤ r → Fits r w e → Fits n w e
looser r n e h f = record { bare = f.bare; enclosed = λ (g : grade_rank (printed Needed e).grade < n). f.enclosed (omega arith) }

own : (r : ℕ) {w : Word} (q : Printed) → r ≤ grade_rank q.grade → Under true w (word q.marks) → Fit r w q
own r q h u = record { bare = u; enclosed = λ g. absurd (let f : ⊥ = omega arith in f) }

made : (r : ℕ) {w : Word} (l : Shape-F Shape Suffix Choice Expr Link) (o : Span) → Fit r w (print_shape Needed (shape_layer Needed l)) → Fits r w (expr (shape_at l) o)
made r {w} l o f = subst (Fit r w) (sym (printed_at Needed l o)) f

abbrev pub place_rank : Place → ℕ
place_rank Anywhere = 0
place_rank Chosen = 1
place_rank (Operand l) = suc (rank l)
place_rank BehindPrefix = 12
place_rank BeforeSuffix = 13

pub not_le : (m n : ℕ) → nat_le m n ≡ false → n < m
not_le m n h = go (nat_lt n m) refl
  where
    go : (b : Bool) → nat_lt n m ≡ b → n < m
    go true e = Rattle.std.proofs.lemmas.Bool.ltb-true n m e
    go false e = absurd (never (sym (le-leb m n (Rattle.std.proofs.lemmas.Bool.ltb-false n m e)) ∙ h))
      where
        never : true ≡ false → ⊥
        never e = absurd cc

unbound : (p : Place) (g : Grade) → binds p g ≡ false → grade_rank g < place_rank p
unbound Anywhere g h = absurd cc
unbound Chosen g h = not_le 1 (grade_rank g) h
unbound (Operand l) g h = let f : grade_rank g ≤ rank l = Rattle.std.proofs.lemmas.Bool.ltb-false (rank l) (grade_rank g) h in omega arith
unbound BehindPrefix g h = not_le 12 (grade_rank g) h
unbound BeforeSuffix g h = not_le 13 (grade_rank g) h

pub at_place : (p : Place) {w : Word} (e : Expr) → Fits (place_rank p) w e → Under true w (word (placed Needed p (printed Needed e)))
at_place p {w} e f = cond_both (binds p (printed Needed e).grade) (printed Needed e).marks (in_brackets (printed Needed e).marks) (λ ms. Under true w (word ms))
    (λ h. f.bare) (λ h. f.enclosed (unbound p (printed Needed e).grade h))

-- 4. Chains

FirstLevel : Level → List Link → Type 0
FirstLevel l [] = Unit {0}
FirstLevel l (j ∷ ls) = (printed_link Needed j).level ≡ l

LinksUnder : Level → Word → List Link → Type 0
LinksUnder l w ls = FirstLevel l ls × Under true w (word (link_marks (map (printed_link Needed) ls)))

link_under : (t : Token) (s : Sign) (o : BinaryOperator) (l : Level) {u : Word} (w : Word) (b : Expr) (ls : List Link) → IsSign t s → binary_of s ≡ Some o → level_of o ≡ l → Fits (suc (rank l)) u b → LinksUnder l w ls → LinksUnder l (t ∷ u ++ w) (link o b ∷ ls)
unfolding LinksUnder FirstLevel
link_under t s o l {u} w b ls i h e f (first, rest) = (
  ap (λ (x : PrintedLink). x.level) (link_written Needed o b) ∙ e,
  subst (λ (x : PrintedLink). Under true (t ∷ u ++ w) (word (x.marks ++ link_marks (map (printed_link Needed) ls)))) (sym (link_written Needed o b))
      (both {u = t ∷ u} (spaced (sign_of o) ++ placed Needed (Operand (level_of o)) (printed Needed b)) (link_marks (map (printed_link Needed) ls))
      (next (operator_under t s o i h) (at_place (Operand (level_of o)) b (subst (λ x. Fits (suc (rank x)) u b) (sym e) f))) rest),
)

chained_under : (l : Level) {u : Word} (w : Word) (a : Expr) (ls : List Link) → Fits (suc (rank l)) u a → LinksUnder l w ls → Fits (rank l) (u ++ w) (chained a ls)
unfolding LinksUnder FirstLevel
chained_under l {u} w a [] f (first, rest) =
    let g = looser (suc (rank l)) (rank l) a (omega arith) f in
    record {
      bare = subst (Under true (u ++ w)) (append-nil (word (printed Needed a).marks)) (append g.bare rest);
      enclosed = λ h. subst (Under true (u ++ w)) (append-nil (word (in_brackets (printed Needed a).marks))) (append (g.enclosed h) rest);
    }
chained_under l {u} w a (j ∷ ls) f (first, rest) =
    made (rank l) (Shape-F.Chain a (j ∷ ls)) _ (own (rank l) (print_shape Needed (shape_layer Needed (Shape-F.Chain a (j ∷ ls))))
    (let e : rank l ≡ rank (printed_link Needed j).level = ap rank (sym first) in omega arith)
    (both (placed Needed (Operand (printed_link Needed j).level) (printed Needed a)) (link_marks (map (printed_link Needed) (j ∷ ls)))
    (at_place (Operand (printed_link Needed j).level) a (subst (λ x. Fits (suc (rank x)) u a) (sym first) f)) rest))

-- 5. Prefixes

PrefixedUnder : Word → List PrefixOperator → Expr → Type 0
PrefixedUnder w [] a = Fits 12 w a
PrefixedUnder w (p ∷ ps) a = Under true w (word (prefixes_marks (p ∷ ps) ++ placed Needed BehindPrefix (printed Needed a)))

with_prefixes : (w : Word) (ps : List PrefixOperator) (a : Expr) → PrefixedUnder w ps a → Under true w (word (prefixes_marks ps ++ placed Needed BehindPrefix (printed Needed a)))
unfolding PrefixedUnder
with_prefixes w [] a f = at_place BehindPrefix a f
with_prefixes w (p ∷ ps) a f = f

one_more : {u : Word} (w : Word) (p : PrefixOperator) (ps : List PrefixOperator) (a : Expr) → Under true u (word (prefix_marks p.prefix)) → PrefixedUnder w ps a → PrefixedUnder (u ++ w) (p ∷ ps) a
unfolding PrefixedUnder
one_more {u} w p ps a h f = subst (λ ms. Under true (u ++ w) (word ms)) (sym (append_assoc (prefix_marks p.prefix) (prefixes_marks ps) (placed Needed BehindPrefix (printed Needed a))))
    (both (prefix_marks p.prefix) (prefixes_marks ps ++ placed Needed BehindPrefix (printed Needed a)) h (with_prefixes w ps a f))

prefixed_under : (w : Word) (ps : List PrefixOperator) (a : Expr) → PrefixedUnder w ps a → Fits 11 w (prefixed ps a)
unfolding PrefixedUnder
prefixed_under w [] a f = looser 12 11 a (omega arith) f
prefixed_under w (p ∷ ps) a f = made 11 (Shape-F.Prefix (p ∷ ps) a) _ (own 11 (print_shape Needed (shape_layer Needed (Shape-F.Prefix (p ∷ ps) a))) (omega arith) f)

cast_word : (c : CType) → word (cast_marks c) ≡ word (in_brackets (type_marks c))
cast_word c = word_append (in_brackets (type_marks c)) (Space ∷ []) ∙ append-nil (word (in_brackets (type_marks c)))

cast_under : (t s : Token) {u : Word} (w : Word) (c : CType) (o : Span) (ps : List PrefixOperator) (a : Expr) → IsSign t sign.OpenParen → IsSign s sign.CloseParen → Under true u (word (type_marks c)) → PrefixedUnder w ps a
    → PrefixedUnder (t ∷ u ++ s ∷ w) (record { prefix = Rattle.c_tree.specs.declared.operators.Prefix.TheVariants.Cast c; span = o } ∷ ps) a
cast_under t s {u} w c o ps a i j h f =
    subst (λ z. PrefixedUnder (t ∷ z) (record { prefix = Rattle.c_tree.specs.declared.operators.Prefix.TheVariants.Cast c; span = o } ∷ ps) a) (append_assoc u (s ∷ []) w)
    (one_more {u = t ∷ u ++ s ∷ []} w (record { prefix = Rattle.c_tree.specs.declared.operators.Prefix.TheVariants.Cast c; span = o }) ps a
    (subst (Under true (t ∷ u ++ s ∷ [])) (sym (cast_word c)) (enclosed_marks true sign.OpenParen sign.CloseParen (parens true) t s i j (type_marks c) h)) f)

-- 6. Suffixes

SuffixesUnder : Word → List Suffix → Type 0
SuffixesUnder w xs = Under true w (word (in_row (map (suffix_marks Needed) xs)))

suffix_under : {u : Word} (w : Word) (l : Suffix-F Shape Suffix Choice Expr Link) (xs : List Suffix) → Under true u (word (print_suffix Needed (suffix_layer Needed l))) → SuffixesUnder w xs → SuffixesUnder (u ++ w) (suffix_at l ∷ xs)
unfolding SuffixesUnder
suffix_under {u} w l xs h r = both (suffix_marks Needed (suffix_at l)) (in_row (map (suffix_marks Needed) xs)) (subst (λ ms. Under true u (word ms)) (sym (suffix_written_at Needed l)) h) r

suffixed_under : {u : Word} (w : Word) (a : Expr) (xs : List Suffix) → Fits 13 u a → SuffixesUnder w xs → Fits 12 (u ++ w) (suffixed a xs)
unfolding SuffixesUnder
suffixed_under {u} w a [] f r =
    let g = looser 13 12 a (omega arith) f in
    record {
      bare = subst (Under true (u ++ w)) (append-nil (word (printed Needed a).marks)) (append g.bare r);
      enclosed = λ h. subst (Under true (u ++ w)) (append-nil (word (in_brackets (printed Needed a).marks))) (append (g.enclosed h) r);
    }
suffixed_under w a (x ∷ xs) f r = made 12 (Shape-F.Postfix a (x ∷ xs)) _ (own 12 (print_shape Needed (shape_layer Needed (Shape-F.Postfix a (x ∷ xs)))) (omega arith)
    (both (placed Needed BeforeSuffix (printed Needed a)) (in_row (map (suffix_marks Needed) (x ∷ xs))) (at_place BeforeSuffix a f) r))

-- 7. Choices

ChoosingUnder : Word → List Choice → Expr → Type 0
ChoosingUnder w [] e = Fits 1 w e
ChoosingUnder w (c ∷ cs) e = Under true w (word (in_row (map (choice_marks Needed) (c ∷ cs)) ++ placed Needed Chosen (printed Needed e)))

with_choices : (w : Word) (cs : List Choice) (e : Expr) → ChoosingUnder w cs e → Under true w (word (in_row (map (choice_marks Needed) cs) ++ placed Needed Chosen (printed Needed e)))
unfolding ChoosingUnder
with_choices w [] e f = at_place Chosen e f
with_choices w (c ∷ cs) e f = f

choice_under : (t s : Token) {u z : Word} (w : Word) (a b : Expr) (cs : List Choice) (e : Expr) → IsSign t sign.Question → IsSign s sign.Colon → Fits 1 u a → Fits 0 z b → ChoosingUnder w cs e → ChoosingUnder (u ++ t ∷ z ++ s ∷ w) (choice a b ∷ cs) e
unfolding ChoosingUnder
choice_under t s {u} {z} w a b cs e i j f g r = subst (Under true (u ++ t ∷ z ++ s ∷ w)) (sym flat)
    (grouped u (t ∷ z) (s ∷ w) (word (placed Needed Chosen (printed Needed a))) (token (k.Sign sign.Question) [] ∷ word (placed Needed Anywhere (printed Needed b))) (token (k.Sign sign.Colon) [] ∷ word (in_row (map (choice_marks Needed) cs) ++ placed Needed Chosen (printed Needed e)))
    (append (at_place Chosen a f) (enclosed_then sign.Question sign.Colon question t s i j (at_place Anywhere b g) (with_choices w cs e r))))
  where
    flat : word (choice_marks Needed (choice a b) ++ in_row (map (choice_marks Needed) cs) ++ placed Needed Chosen (printed Needed e))
        ≡ word (placed Needed Chosen (printed Needed a)) ++ token (k.Sign sign.Question) [] ∷ word (placed Needed Anywhere (printed Needed b)) ++ token (k.Sign sign.Colon) [] ∷ word (in_row (map (choice_marks Needed) cs) ++ placed Needed Chosen (printed Needed e))
    flat = ap word (append_assoc (choice_marks Needed (choice a b)) (in_row (map (choice_marks Needed) cs)) (placed Needed Chosen (printed Needed e)))
        ∙ word_append (choice_marks Needed (choice a b)) (in_row (map (choice_marks Needed) cs) ++ placed Needed Chosen (printed Needed e))
        ∙ ap (λ w. w ++ word (in_row (map (choice_marks Needed) cs) ++ placed Needed Chosen (printed Needed e)))
        (ap word (choice_written Needed a b)
        ∙ word_append (placed Needed Chosen (printed Needed a) ++ spaced sign.Question ++ placed Needed Anywhere (printed Needed b)) (spaced sign.Colon)
        ∙ ap (λ w. w ++ token (k.Sign sign.Colon) [] ∷ [])
        (word_append (placed Needed Chosen (printed Needed a) ++ spaced sign.Question) (placed Needed Anywhere (printed Needed b))
        ∙ ap (λ w. w ++ word (placed Needed Anywhere (printed Needed b))) (word_append (placed Needed Chosen (printed Needed a)) (spaced sign.Question))
        ∙ append_assoc (word (placed Needed Chosen (printed Needed a))) (token (k.Sign sign.Question) [] ∷ []) (word (placed Needed Anywhere (printed Needed b)))))
        ∙ append_assoc (word (placed Needed Chosen (printed Needed a)) ++ token (k.Sign sign.Question) [] ∷ word (placed Needed Anywhere (printed Needed b))) (token (k.Sign sign.Colon) [] ∷ []) (word (in_row (map (choice_marks Needed) cs) ++ placed Needed Chosen (printed Needed e)))

chosen_under : (w : Word) (cs : List Choice) (e : Expr) → ChoosingUnder w cs e → Fits 0 w (conditional cs e)
unfolding ChoosingUnder
chosen_under w [] e f = looser 1 0 e (omega arith) f
chosen_under w (c ∷ cs) e f = made 0 (Shape-F.Conditional (c ∷ cs) e) _ (own 0 (print_shape Needed (shape_layer Needed (Shape-F.Conditional (c ∷ cs) e))) (omega arith) f)

-- 8. Values of one token or in brackets

single_under : (t n : Token) (l : Shape-F Shape Suffix Choice Expr Link) → Under true (t ∷ []) (word (print_shape Needed (shape_layer Needed l)).marks) → 13 ≤ grade_rank (print_shape Needed (shape_layer Needed l)).grade → Fits 13 (t ∷ []) (expr (shape_at l) (at t))
single_under t n l u h = made 13 l (at t) (own 13 (print_shape Needed (shape_layer Needed l)) h u)

brackets_under : (t s : Token) {w : Word} (o : Span) (a : Expr) → IsSign t sign.OpenParen → IsSign s sign.CloseParen → Fits 0 w a → Fits 13 (t ∷ w ++ s ∷ []) (bracketed o a)
brackets_under t s {w} o a i j f = subst (Fit 13 (t ∷ w ++ s ∷ [])) (printed_span Needed o a)
    (record {
      bare = unbracketed sign.OpenParen sign.CloseParen (parens true) t s i j f.bare (λ o. tt);
      enclosed = λ h. enclosed_marks true sign.OpenParen sign.CloseParen (parens true) t s i j (printed Needed a).marks f.bare;
    })

-- 9. All readings

abbrev Claim : (p : v.Part) → Word → v.tree_of p → Type 0
Claim v.Value w e = Fits 0 w e
Claim v.Choosing w x = ChoosingUnder w x.0 x.1
Claim (v.Chained l) w e = Fits (rank l) w e
Claim (v.Links l) w ls = LinksUnder l w ls
Claim (v.Operand l) w e = Fits (suc (rank l)) w e
Claim v.Prefixed w x = PrefixedUnder w x.0 x.1
Claim v.Postfixed w e = Fits 12 w e
Claim v.Suffixes w xs = SuffixesUnder w xs
Claim v.Primary w e = Fits 13 w e
Claim v.Arguments w es = Under true w (word (arguments_marks Needed es))
Claim v.MoreArguments w es = Under true w (word (more_arguments_marks Needed es))

module _ (ns : Names) (constant : Bool) where
  under : {p : v.Part} {w : Word} {x : v.tree_of p} → v.Reads ns constant p w x → Claim p w x
  unfolding LinksUnder FirstLevel PrefixedUnder SuffixesUnder ChoosingUnder
  under (v.value {w} {cs} {e} r) = chosen_under w cs e (under r)
  under (v.last_choice r) = under r
  under (v.more_choices t s {w} {a} {b} {e} {cs} ra i rb j rest) = choice_under t s w a b cs e i j (under ra) (under rb) (under rest)
  under (v.chain {l} {v = z} {a} {ls} ra rest) = chained_under l z a ls (under ra) (under rest)
  under v.no_link = (tt, nothing true)
  under (v.more_links {t} {s} {o} {l} {v = z} {b} {ls} i h e rb rest) = link_under t s o l z b ls i h e (under rb) (under rest)
  under (v.operand {l} {m} {w} {a} h r) = subst (λ n. Fits n w a) (by_level l m h) (under r)
  under (v.tightest {w} {ps} {a} r) = prefixed_under w ps a (under r)
  under (v.no_prefix r) = under r
  under (v.more_prefixes {t} {s} {p} {w} {ps} {a} i h r m) =
      let q = by_sign constant s p h in
      one_more {u = t ∷ []} w (record { prefix = p; span = at t }) ps a (subst (λ ms. Under true (t ∷ []) (word ms)) (sym q.0) (a_sign true t s q.1 i)) (under r)
  under (v.cast {t} s {w} {c} {ps} {a} i rc h j r) = cast_under t s w c (join (at t) (at s)) ps a i j (type_under rc) (under r)
  under (v.postfixed {v = z} {a} {xs} ra rest h) = suffixed_under z a xs (under ra) (under rest)
  under v.no_suffix = nothing true
  under (v.field {t} {n} {w} {xs} h i j rest) = suffix_under {u = t ∷ n ∷ []} w (Suffix-F.Field (name_at n)) xs (next (a_sign true t sign.Dot (λ o. refl) i) (a_name true n n.bytes j)) (under rest)
  under (v.arrow {t} {n} {w} {xs} h i j rest) = suffix_under {u = t ∷ n ∷ []} w (Suffix-F.Arrow (name_at n)) xs (next (a_sign true t sign.Arrow (λ o. refl) i) (a_name true n n.bytes j)) (under rest)
  under (v.index {t} s {v = z} {w} {i = x} {xs} h j ri m rest) =
      subst (λ y. SuffixesUnder (t ∷ y) (suffix_at (Suffix-F.Index x (join (at t) (at s))) ∷ xs)) (append_assoc z (s ∷ []) w)
      (suffix_under {u = t ∷ z ++ s ∷ []} w (Suffix-F.Index x (join (at t) (at s))) xs
      (enclosed_marks true sign.OpenBracket sign.CloseBracket (squares true) t s j m (placed Needed Anywhere (printed Needed x)) (at_place Anywhere x (under ri))) (under rest))
  under (v.number {t} {n} {y} i) = single_under t t (Shape-F.Number (record { value = n; kind = y })) (one true (Of (k.Number n y)) t (token (k.Number n y) []) (λ o. refl) i refl) (omega arith)
  under (v.character {t} {b} i) = single_under t t (Shape-F.Character b) (one true (Of (k.Character b)) t (token (k.Character b) []) (λ o. refl) i refl) (omega arith)
  under (v.text {t} i) = single_under t t (Shape-F.Text t.bytes) (one true (Of k.Text) t (token k.Text t.bytes) (λ o. refl) i refl) (omega arith)
  under (v.constant_name {t} {c} i) = single_under t t (Shape-F.Constant c) (one true (Of (k.Constant c)) t (token (k.Constant c) []) (λ o. refl) i refl) (omega arith)
  under (v.variable {t} i h) = single_under t t (Shape-F.Variable (name_at t)) (a_name true t t.bytes i) (omega arith)
  under (v.function {t} i h) = single_under t t (Shape-F.Function (name_at t)) (a_name true t t.bytes i) (omega arith)
  under (v.member {t} i h) = single_under t t (Shape-F.Member (name_at t)) (a_name true t t.bytes i) (omega arith)
  under (v.size_of {t} {r} s {w} {c} i j rc h m) =
      made 13 (Shape-F.SizeOf c (join (at t) (at s))) (join (at t) (at s)) (own 13 (print_shape Needed (shape_layer Needed (Shape-F.SizeOf c (join (at t) (at s))))) (omega arith)
      (next (a_keyword true t keyword.Sizeof i) (enclosed_marks true sign.OpenParen sign.CloseParen (parens true) r s j m (type_marks c) (type_under rc))))
  under (v.offset {t} {r} d f s {w} {c} i j rc h m x y) =
      made 13 (Shape-F.Offset c (name_at f) (join (at t) (at s))) (join (at t) (at s)) (own 13 (print_shape Needed (shape_layer Needed (Shape-F.Offset c (name_at f) (join (at t) (at s))))) (omega arith)
      (next (a_keyword true t keyword.StructOffset i)
      (subst (λ z. Under true (r ∷ w ++ d ∷ f ∷ s ∷ []) (token (k.Sign sign.OpenParen) [] ∷ z)) (sym (word_append (type_marks c) (ASign sign.Comma ∷ Space ∷ Name f.bytes ∷ ASign sign.CloseParen ∷ [])))
      (subst (λ z. Under true (r ∷ z) (token (k.Sign sign.OpenParen) [] ∷ word (type_marks c) ++ token (k.Sign sign.Comma) [] ∷ token k.Identifier f.bytes ∷ token (k.Sign sign.CloseParen) [] ∷ [])) (append_assoc w (d ∷ f ∷ []) (s ∷ []))
      (subst (λ z. Under true (r ∷ (w ++ d ∷ f ∷ []) ++ s ∷ []) (token (k.Sign sign.OpenParen) [] ∷ z)) (append_assoc (word (type_marks c)) (token (k.Sign sign.Comma) [] ∷ token k.Identifier f.bytes ∷ []) (token (k.Sign sign.CloseParen) [] ∷ []))
      (enclosed true sign.OpenParen sign.CloseParen (parens true) r s j y (append (type_under rc) (next (a_sign true d sign.Comma (λ o. refl) m) (a_name true f f.bytes x)))))))))
  under (v.brackets {t} s {a} i r j) = brackets_under t s _ a i j (under r)
  under v.no_argument = nothing true
  under (v.arguments {a} {xs} ra rest) = both (value_marks Needed a) (more_arguments_marks Needed xs) (at_place Anywhere a (under ra)) (under rest)
  under v.no_more = nothing true
  under (v.more_arguments {t} {u} {v = z} {a} {xs} i ra rest) =
      next (a_sign true t sign.Comma (λ o. refl) i) (both (value_marks Needed a) (more_arguments_marks Needed xs) (at_place Anywhere a (under ra)) (under rest))

  pub value_under : {w : Word} {e : Expr} → v.Reads ns constant v.Value w e → Under true w (word (value_marks Needed e))
  value_under {e} r = at_place Anywhere e (under r)

  pub operand_under : (l : Level) (e : Expr) {w : Word} → v.Reads ns constant (v.Operand l) w e → Under true w (word (placed Needed (Operand l) (printed Needed e)))
  operand_under l e r = at_place (Operand l) e (under r)

  pub callee_under : (e : Expr) {w : Word} → v.Reads ns constant v.Postfixed w e → Under true w (word (placed Needed BehindPrefix (printed Needed e)))
  callee_under e r = at_place BehindPrefix e (under r)

  pub arguments_under : {w : Word} {es : List Expr} → v.Reads ns constant v.Arguments w es → Under true w (word (arguments_marks Needed es))
  arguments_under r = under r

  pub more_under : {w : Word} {es : List Expr} → v.Reads ns constant v.MoreArguments w es → Under true w (word (more_arguments_marks Needed es))
  more_under r = under r
