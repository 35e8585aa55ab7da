-- Stars by their steps.
use Rattle.std.proofs.Common.{◌≡◌, ℕ, suc, ◌+◌, Bool, true, false, if◌then◌else◌, [], ◌∷◌, ◌++◌, Option, Some, None, refl, sym, ap, ◌∙◌, arith}
use Rattle.mending_readers.specs.Mending.{mend_then}
use Rattle.c_lexer.specs.declared.token.Sign.TheVariants as sign
use Rattle.c_tree.specs.declared.names.Span.{Span}
use Rattle.c_tree.specs.Names.{Names}
use Rattle.c_tree.specs.Words.{Token, Word, at}
use Rattle.c_grammar.specs.Parts as part
use Rattle.c_grammar.specs.Parts.{Starred}
use Rattle.c_grammar.specs.Trees as tree
use Rattle.c_grammar.specs.Grammar.{form}
use Rattle.c_nodes.specs.declared.types.Stars.{Stars}
use Rattle.c_nodes.specs.Rows.{row_of, stars_of}
use Rattle.c_nodes.proofs.RowLaws.{between, end_behind}
use Rattle.c_cursor.specs.declared.sets.Set.TheVariants as set
use Rattle.c_cursor.specs.Gives.{seen_by}
use Rattle.c_cursor.specs.Reading.{Read, Place, one, is_next, read, way}
use Rattle.c_cursor.specs.Sets.{is_in}
use Rattle.c_parser.specs.Rows.{joined, no_stars, with_star, with_stars, star_behind, stars_behind}
use Rattle.c_parser.proofs.TypeLaws.{seen_same, seen_more, row_none}
use Rattle.c_parser.proofs.TokenLaws.{taken}
use Rattle.c_parser.proofs.Walks.{Free, free_give, free_take, free_part, free_where, run, by_form}

-- 1. Stars as they are counted

abbrev stars_at : ℕ → Option Span → Stars
stars_at c r = record { count = c; row = r }

stars_same : (c d : ℕ) (r q : Option Span) → c ≡ d → r ≡ q → stars_at c r ≡ stars_at d q
stars_same c d r q e f = rw (e, f)

row_more : (r : Option Span) (t : Token) (u w : Word) → joined (joined (joined r (Some (at t))) (row_of u)) (row_of w) ≡ joined r (row_of (t ∷ u ++ w))
row_more None t [] [] = refl
row_more None t [] (y ∷ v) = refl
row_more None t (x ∷ u) [] = ap (λ n. Some (between t.start n)) (sym (end_behind x.«end» u []))
row_more None t (x ∷ u) (y ∷ v) = ap (λ n. Some (between t.start n)) (sym (end_behind x.«end» u (y ∷ v)))
row_more (Some r) t [] [] = refl
row_more (Some r) t [] (y ∷ v) = refl
row_more (Some r) t (x ∷ u) [] = ap (λ n. Some (between r.start n)) (sym (end_behind x.«end» u []))
row_more (Some r) t (x ∷ u) (y ∷ v) = ap (λ n. Some (between r.start n)) (sym (end_behind x.«end» u (y ∷ v)))

count_more : (a b : ℕ) → (a + 1) + b ≡ a + suc b
count_more a b = omega arith

count_none : (a : ℕ) → 0 + a ≡ a
count_none a = omega arith

count_all : (a : ℕ) → a + 0 ≡ a
count_all a = omega arith

pub with_more : (a : Stars) (t : Token) (u : Word) (k : Starred) → with_stars (with_star a t (row_of u)) k ≡ with_stars a (tree.one_star t u k)
with_more a t u k = stars_same (a.count + 1 + k.stars) (a.count + suc k.stars)
    (joined (joined (joined a.row (Some (at t))) (row_of u)) (row_of k.word)) (joined a.row (row_of (t ∷ u ++ k.word)))
    (count_more a.count k.stars) (row_more a.row t u k.word)

pub with_none : (k : Starred) → with_stars no_stars k ≡ stars_of k
with_none k = stars_same (0 + k.stars) k.stars (joined None (row_of k.word)) (row_of k.word) (count_none k.stars) refl

pub with_all : (a : Stars) → with_stars a tree.no_stars ≡ a
with_all a = stars_same (a.count + 0) a.count (joined a.row None) a.row (count_all a.count) (row_none a.row)

-- 2. Stars as they are read

-- what follows a star
abbrev behind_star : ℕ → Names → ℕ → Token → Place → Read Starred
behind_star e ns l t z = mend_then (read e ns part.Consts l z) (λ u y. mend_then (read e ns (part.Stars false) l y) (λ k w. Some (tree.one_star t u k, w)))

free_must : (ns : Names) → Free (form ns (part.Stars true))
unfolding form
free_must ns = free_take (λ n b. refl) (λ t. free_part (λ u. free_part (λ k. free_give)))

must_law : (e : ℕ) (ns : Names) (l : ℕ) (s : Place) → read e ns (part.Stars true) l s
    ≡ mend_then (one e ns (set.Sign sign.Star) l s) (λ t z. behind_star e ns l t z)
unfolding run form one is_next read
must_law e ns l s = by_form e ns (part.Stars true) l s (free_must ns)

free_any : (ns : Names) → Free (form ns (part.Stars false))
unfolding form
free_any ns = free_where (λ t. free_part (λ u. free_part (λ k. free_give))) free_give

any_law : (e : ℕ) (ns : Names) (l : ℕ) (s : Place) → read e ns (part.Stars false) l s
    ≡ way ns (set.Sign sign.Star) s (mend_then (one e ns (set.Sign sign.Star) l s) (λ t z. behind_star e ns l t z)) (Some (tree.no_stars, s))
unfolding run form one is_next read
any_law e ns l s = by_form e ns (part.Stars false) l s (free_any ns)

-- stars behind others, by what follows a star
counted : (R : Place → Read Starred) (t : Token) (a : Stars) (o : Read Word)
    → stars_behind a (mend_then o (λ u x. mend_then (R x) (λ k w. Some (tree.one_star t u k, w))))
    ≡ mend_then (mend_then (seen_by row_of o) (λ r z. Some (with_star a t r, z))) (λ b y. stars_behind b (R y))
unfolding stars_behind
counted R t a None = refl
counted R t a (Some x) =
    seen_more (with_stars a) (λ k. tree.one_star t x.0 k) (R x.1)
    ∙ seen_same (λ k. with_stars a (tree.one_star t x.0 k)) (with_stars (with_star a t (row_of x.0))) (R x.1) (λ k. sym (with_more a t x.0 k))

-- the stars behind one
abbrev star_then : ℕ → Names → ℕ → Stars → Token → Place → Read Stars
star_then e ns l a t z = mend_then (star_behind e ns a t l z) (λ b y. stars_behind b (read e ns (part.Stars false) l y))

star_go : (e : ℕ) (ns : Names) (l : ℕ) (a : Stars) (t : Token) (z : Place) → stars_behind a (behind_star e ns l t z) ≡ star_then e ns l a t z
unfolding star_behind
star_go e ns l a t z = counted (λ x. read e ns (part.Stars false) l x) t a (read e ns part.Consts l z)

abbrev any_by : ℕ → Names → ℕ → Place → Bool → Read Starred
any_by e ns l s b = if b then mend_then (one e ns (set.Sign sign.Star) l s) (λ t z. behind_star e ns l t z) else Some (tree.no_stars, s)

none_more : (a : Stars) (s : Place) → stars_behind a (Some (tree.no_stars, s)) ≡ Some (a, s)
unfolding stars_behind
none_more a s = ap (λ k. Some (k, s)) (with_all a)

go_on : (e : ℕ) (ns : Names) (l : ℕ) (s : Place) (a : Stars) (b : Bool)
    → stars_behind a (any_by e ns l s b) ≡ (if b then mend_then (one e ns (set.Sign sign.Star) l s) (λ t z. star_then e ns l a t z) else Some (a, s))
unfolding one
go_on e ns l s a true = star_go e ns l a (taken e l (is_in (set.Sign sign.Star) ns) s).0 (taken e l (is_in (set.Sign sign.Star) ns) s).1
go_on e ns l s a false = none_more a s

pub stars_law : (e : ℕ) (ns : Names) (l : ℕ) (s : Place) (a : Stars) → stars_behind a (read e ns (part.Stars false) l s)
    ≡ way ns (set.Sign sign.Star) s (mend_then (one e ns (set.Sign sign.Star) l s)
    (λ t z. mend_then (star_behind e ns a t l z) (λ b y. stars_behind b (read e ns (part.Stars false) l y)))) (Some (a, s))
stars_law e ns l s a = ap (λ o. stars_behind a o) (any_law e ns l s) ∙ go_on e ns l s a (is_next ns (set.Sign sign.Star) s)

pub must_stars_law : (e : ℕ) (ns : Names) (l : ℕ) (s : Place) (a : Stars) → stars_behind a (read e ns (part.Stars true) l s)
    ≡ mend_then (one e ns (set.Sign sign.Star) l s) (λ t z. mend_then (star_behind e ns a t l z) (λ b y. stars_behind b (read e ns (part.Stars false) l y)))
must_stars_law e ns l s a = ap (λ o. stars_behind a o) (must_law e ns l s) ∙ go_on e ns l s a true

-- nothing in front
pub stars_start : (o : Read Starred) → stars_behind no_stars o ≡ seen_by stars_of o
unfolding stars_behind
stars_start o = seen_same (with_stars no_stars) stars_of o (λ k. with_none k)

pub ruleset star_laws = (stars_law, must_stars_law, stars_start)
