-- The last word of a name of more than one is that of the others.
use Rattle.std.proofs.Common.{◌≡◌, ℕ, ◌-◌, ◌≤◌, List, [], ◌∷◌, length, take, drop, refl, ap, subst, ◌∙◌, arith}
use Rattle.vg_base.specs.declared.event.Span.{Span}
use Rattle.vala_tree.specs.declared.names.Identifier.{Identifier}
use Rattle.vala_file_grammar.specs.Trees as tree

take_all : (r : List Identifier) → take (length r) r ≡ r
take_all [] = refl
take_all (x ∷ r) = ap (λ (xs : List Identifier). x ∷ xs) (take_all r)

behind_first : (x : Identifier) (r : List Identifier) → take (length (x ∷ r) - 1) r ≡ r
behind_first x r = let n : length (x ∷ r) - 1 ≡ length r = omega arith in ap (λ (n : ℕ). take n r) n ∙ take_all r

last_of_more : (x : Identifier) (r : List Identifier) (s : Span) → 1 ≤ length r → tree.last_word (record { words = r; span = s }) ≡ tree.last_word (record { words = x ∷ r; span = s })
last_of_more x [] s h = absurd (omega arith)
last_of_more x (y ∷ r) s h = refl

pub last_behind : (xs : List Identifier) (s : Span) → 1 ≤ length xs → 1 ≤ length (take (length xs - 1) (drop 1 xs))
    → tree.last_word (record { words = take (length xs - 1) (drop 1 xs); span = s }) ≡ tree.last_word (record { words = xs; span = s })
last_behind [] s h g = absurd (omega arith)
last_behind (x ∷ r) s h g =
    ap (λ (ws : List Identifier). tree.last_word (record { words = ws; span = s })) (behind_first x r)
    ∙ last_of_more x r s (subst (λ (ws : List Identifier). 1 ≤ length ws) (behind_first x r) g)
