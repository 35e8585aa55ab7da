-- What is left of a text denotes, byte by byte.
use Rattle.std.proofs.Common.{◌≡◌, ◌≢◌, ℕ, zero, suc, ◌+◌, ◌-◌, ◌<◌, ◌==◌, Bool, true, false, cond, List, [], ◌∷◌, ◌++◌, length, drop, get_or, refl, sym, ap, ◌∙◌, arith}
use Rattle.std.proofs.lemmas.Bool.{eqb-true}
use Rattle.std.proofs.lemmas.List.{append_assoc, drop_more}
use Rattle.vala_lexer.specs.Texts.{denoted_behind, escape, escape_bytes, escape_len}
use Rattle.vala_lexer.specs.declared.texts.Literal.TheVariants as literal

one_less : (n : ℕ) (b : ℕ) (z : List ℕ) → 0 < n → denoted_behind n (b ∷ z) ≡ denoted_behind (n - 1) z
one_less zero b z h = absurd (omega arith)
one_less (suc n) b z h = ap (λ m. denoted_behind m z) (let e : n ≡ suc n - 1 = omega arith in e)

plain : (b : ℕ) (z : List ℕ) → b ≢ 92 → denoted_behind 0 (b ∷ z) ≡ b ∷ denoted_behind 0 z
plain b z h = go (b == 92) refl
  where
    go : (t : Bool) → (b == 92) ≡ t → cond t (escape_bytes (escape literal.Text z) ++ denoted_behind (escape_len (escape literal.Text z)) z) (b ∷ denoted_behind 0 z) ≡ b ∷ denoted_behind 0 z
    go true e = absurd (h (eqb-true b 92 e))
    go false e = refl

-- a byte that the escape before it has taken
pub skipped : (all v : List ℕ) (n i : ℕ) (z : List ℕ) → i < length z → 0 < n → all ≡ v ++ denoted_behind n (drop i z) → all ≡ v ++ denoted_behind (n - 1) (drop (i + 1) z)
skipped all v n i z h k e = e ∙ ap (λ w. v ++ w) (ap (denoted_behind n) (drop_more z i 0 h) ∙ one_less n (get_or z i 0) (drop (i + 1) z) k)

-- a byte that denotes itself
pub itself : (all v : List ℕ) (n i : ℕ) (z : List ℕ) → i < length z → n ≡ 0 → get_or z i 0 ≢ 92 → all ≡ v ++ denoted_behind n (drop i z)
    → all ≡ (v ++ get_or z i 0 ∷ []) ++ denoted_behind n (drop (i + 1) z)
itself all v n i z h none k e = e ∙ ap (λ w. v ++ w) (ap (λ m. denoted_behind m (drop i z)) none ∙ ap (denoted_behind 0) (drop_more z i 0 h) ∙ plain (get_or z i 0) (drop (i + 1) z) k)
    ∙ ap (λ m. v ++ get_or z i 0 ∷ denoted_behind m (drop (i + 1) z)) (sym none)
    ∙ sym (append_assoc v (get_or z i 0 ∷ []) (denoted_behind n (drop (i + 1) z)))

-- a backslash
pub escaped : (all v : List ℕ) (n i : ℕ) (z : List ℕ) → i < length z → n ≡ 0 → get_or z i 0 ≡ 92 → all ≡ v ++ denoted_behind n (drop i z)
    → all ≡ (v ++ escape_bytes (escape literal.Text (drop (i + 1) z))) ++ denoted_behind (escape_len (escape literal.Text (drop (i + 1) z))) (drop (i + 1) z)
escaped all v n i z h none k e = e ∙ ap (λ w. v ++ w) (ap (λ m. denoted_behind m (drop i z)) none ∙ ap (denoted_behind 0) (drop_more z i 0 h ∙ ap (λ b. b ∷ drop (i + 1) z) k))
    ∙ sym (append_assoc v (escape_bytes (escape literal.Text (drop (i + 1) z))) (denoted_behind (escape_len (escape literal.Text (drop (i + 1) z))) (drop (i + 1) z)))
