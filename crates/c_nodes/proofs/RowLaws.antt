-- Rows of tokens.
use Rattle.std.proofs.Common.{◌≡◌, refl, ap, ◌∙◌, is_some, ℕ, List, [], ◌∷◌, ◌++◌}
use Rattle.c_tree.specs.declared.names.Span.{Span}
use Rattle.c_tree.specs.declared.code.Suffix.{Suffix}
use Rattle.c_tree.specs.Make.{last_suffix, suffix_span}
use Rattle.c_tree.specs.Words.{Token, Word, at, extent, join, start_of, end_of}
use Rattle.c_grammar.specs.Parts.{Starred}
use Rattle.c_grammar.specs.Trees.{type_of, is_some_word}
use Rattle.c_nodes.specs.Rows.{row_of, row_or, stars_of, suffix_end, type_in_rows}

-- the end of tokens behind others
pub end_behind : (n : ℕ) (u w : Word) → end_of n (u ++ w) ≡ end_of (end_of n u) w
end_behind n [] w = refl
end_behind n (t ∷ u) w = end_behind t.«end» u w

pub first_in : (u v w : Word) (t : Token) → start_of 0 (u ++ t ∷ v ++ w) ≡ (row_or (row_of u) (at t)).start
first_in [] v w t = refl
first_in (x ∷ u) v w t = refl

-- the end of tokens behind a place
pub at_end : (w : Word) (s : Span) → end_of s.«end» w ≡ (row_or (row_of w) s).«end»
at_end [] s = refl
at_end (x ∷ w) s = refl

pub last_in : (u v w : Word) (t : Token) → end_of 0 (u ++ t ∷ v ++ w) ≡ (row_or (row_of w) (row_or (row_of v) (at t))).«end»
last_in u v w t = end_behind 0 (u ++ t ∷ v) w ∙ ap (λ n. end_of n w) (end_behind 0 u (t ∷ v) ∙ at_end v (at t)) ∙ at_end w (row_or (row_of v) (at t))

pub last_suffixes : (x : Suffix) (xs : List Suffix) → last_suffix x xs ≡ suffix_end (suffix_span x) xs
last_suffixes x [] = refl
last_suffixes x (y ∷ xs) = last_suffixes y xs

pub some_in : (u : Word) → is_some_word u ≡ is_some (row_of u)
some_in [] = refl
some_in (t ∷ u) = refl

abbrev pub between : ℕ → ℕ → Span
between a b = record { start = a; «end» = b }

pub spans : (a b c d : ℕ) → a ≡ b → c ≡ d → between a c ≡ between b d
spans a b c d e f = rw (e, f)

pub extent_rows : (u v w : Word) (t : Token) → extent (u ++ t ∷ v ++ w) ≡ join (row_or (row_of u) (at t)) (row_or (row_of w) (row_or (row_of v) (at t)))
extent_rows u v w t =
    spans (start_of 0 (u ++ t ∷ v ++ w)) (row_or (row_of u) (at t)).start (end_of 0 (u ++ t ∷ v ++ w)) (row_or (row_of w) (row_or (row_of v) (at t))).«end» (first_in u v w t) (last_in u v w t)

pub type_rows : (u : Word) (t : Token) (v : Word) (s : Starred) → type_of u t v s ≡ type_in_rows (row_of u) t (row_of v) (stars_of s)
type_rows u t v s = rw (some_in u, some_in v, extent_rows u v s.word t)
