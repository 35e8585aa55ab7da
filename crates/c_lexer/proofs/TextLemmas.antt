-- Texts and characters, byte by byte.
use Rattle.std.proofs.Common.{◌≡◌, ◌≢◌, ℕ, suc, ◌+◌, ◌<◌, true, false, ◌==◌, List, [], ◌∷◌, ◌++◌, length, drop, get_or, append_assoc, Option, Some, None, refl, sym, ap, subst, ◌∙◌}
use Rattle.std.specs.Option.{option_map}
use Rattle.std.proofs.lemmas.Bool.{ne_eqb}
use Rattle.std.proofs.lemmas.List.{drop_more}
use Rattle.c_lexer.specs.declared.texts.Escape.{Escape}
use Rattle.c_lexer.specs.Texts.{escape, quoted_behind, denoted_behind, with_escape}
use Rattle.c_lexer.proofs.ByteLemmas.{one_more}

is_backslash : (b : ℕ) → b ≡ 92 → (b == 92) ≡ true
is_backslash b e = subst (λ x. (x == 92) ≡ true) (sym e) refl

no_line : (b : ℕ) → b ≡ 92 → (b == 10) ≡ false
no_line b e = subst (λ x. (x == 10) ≡ false) (sym e) refl

pub quoted_escape : (q b : ℕ) (y : List ℕ) (e : Escape) → b ≢ q → b ≡ 92 → escape y ≡ Some e → quoted_behind 0 q (b ∷ y) ≡ option_map (λ m. suc m) (quoted_behind e.len q y)
quoted_escape q b y e ne is found = rw (ne_eqb b q ne, no_line b is, is_backslash b is, found) refl

pub quoted_plain : (q b : ℕ) (y : List ℕ) → b ≢ q → b ≢ 10 → b ≢ 92 → quoted_behind 0 q (b ∷ y) ≡ option_map (λ m. suc m) (quoted_behind 0 q y)
quoted_plain q b y ne line slash = rw (ne_eqb b q ne, ne_eqb b 10 line, ne_eqb b 92 slash) refl

-- one more byte of a text that has not ended
module _ (q : ℕ) (z : List ℕ) (i : ℕ) (o : Option ℕ) (h : i < length z) where
  quoted_on : (k m : ℕ) → quoted_behind k q (get_or z i 0 ∷ drop (i + 1) z) ≡ option_map (λ n. suc n) (quoted_behind m q (drop (i + 1) z)) → o ≡ option_map (λ n. i + n) (quoted_behind k q (drop i z))
      → o ≡ option_map (λ n. i + 1 + n) (quoted_behind m q (drop (i + 1) z))
  quoted_on k m e g = g ∙ ap (λ x. option_map (λ n. i + n) (quoted_behind k q x)) (drop_more z i 0 h) ∙ ap (option_map (λ n. i + n)) e ∙ one_more i (quoted_behind m q (drop (i + 1) z))

  pub quoted_taken : (k m : ℕ) → suc m ≡ k → o ≡ option_map (λ n. i + n) (quoted_behind k q (drop i z)) → o ≡ option_map (λ n. i + 1 + n) (quoted_behind m q (drop (i + 1) z))
  quoted_taken k m e g = quoted_on k m (ap (λ (x : ℕ). quoted_behind x q (get_or z i 0 ∷ drop (i + 1) z)) (sym e)) g

  pub quoted_escaped : (k : ℕ) (e : Escape) → k ≡ 0 → get_or z i 0 ≢ q → get_or z i 0 ≡ 92 → escape (drop (i + 1) z) ≡ Some e → o ≡ option_map (λ n. i + n) (quoted_behind k q (drop i z)) → o ≡ option_map (λ n. i + 1 + n) (quoted_behind e.len q (drop (i + 1) z))
  quoted_escaped k e none ne is found g = quoted_on 0 e.len (quoted_escape q (get_or z i 0) (drop (i + 1) z) e ne is found) (subst (λ x. o ≡ option_map (λ n. i + n) (quoted_behind x q (drop i z))) none g)

  pub quoted_more : (k : ℕ) → k ≡ 0 → get_or z i 0 ≢ q → get_or z i 0 ≢ 10 → get_or z i 0 ≢ 92 → o ≡ option_map (λ n. i + n) (quoted_behind k q (drop i z)) → o ≡ option_map (λ n. i + 1 + n) (quoted_behind k q (drop (i + 1) z))
  quoted_more k none ne line slash g =
      subst (λ x. o ≡ option_map (λ n. i + 1 + n) (quoted_behind x q (drop (i + 1) z))) (sym none)
      (quoted_on 0 0 (quoted_plain q (get_or z i 0) (drop (i + 1) z) ne line slash) (subst (λ x. o ≡ option_map (λ n. i + n) (quoted_behind x q (drop i z))) none g))

pub denoted_byte : (b : ℕ) (y : List ℕ) → b ≢ 92 → denoted_behind 0 (b ∷ y) ≡ b ∷ denoted_behind 0 y
denoted_byte b y h = rw (ne_eqb b 92 h) refl

pub denoted_by : (b : ℕ) (y : List ℕ) → b ≡ 92 → denoted_behind 0 (b ∷ y) ≡ with_escape (escape y) (λ n. denoted_behind n y)
denoted_by b y h = rw (is_backslash b h) refl

-- one more byte between quotes
module _ (z : List ℕ) (i : ℕ) (all out : List ℕ) (h : i < length z) where
  pub denoted_taken : (k m : ℕ) → suc m ≡ k → all ≡ out ++ denoted_behind k (drop i z) → all ≡ out ++ denoted_behind m (drop (i + 1) z)
  denoted_taken k m e g = g ∙ ap (λ x. out ++ denoted_behind x (drop i z)) (sym e) ∙ ap (λ x. out ++ denoted_behind (suc m) x) (drop_more z i 0 h)

  pub denoted_more : (k : ℕ) → k ≡ 0 → get_or z i 0 ≢ 92 → all ≡ out ++ denoted_behind k (drop i z) → all ≡ (out ++ get_or z i 0 ∷ []) ++ denoted_behind k (drop (i + 1) z)
  denoted_more k none ne given = subst (λ x. all ≡ (out ++ get_or z i 0 ∷ []) ++ denoted_behind x (drop (i + 1) z)) (sym none) (
      subst (λ x. all ≡ out ++ denoted_behind x (drop i z)) none given ∙ ap (λ x. out ++ denoted_behind 0 x) (drop_more z i 0 h) ∙ ap (λ x. out ++ x) (denoted_byte (get_or z i 0) (drop (i + 1) z) ne) ∙ sym (append_assoc out (get_or z i 0 ∷ []) (denoted_behind 0 (drop (i + 1) z))))

  pub denoted_escaped : (k : ℕ) (e : Escape) → k ≡ 0 → get_or z i 0 ≡ 92 → escape (drop (i + 1) z) ≡ Some e → all ≡ out ++ denoted_behind k (drop i z) → all ≡ (out ++ e.byte ∷ []) ++ denoted_behind e.len (drop (i + 1) z)
  denoted_escaped k e none is found g =
      subst (λ x. all ≡ out ++ denoted_behind x (drop i z)) none g ∙ ap (λ x. out ++ denoted_behind 0 x) (drop_more z i 0 h) ∙ ap (λ x. out ++ x) (denoted_by (get_or z i 0) (drop (i + 1) z) is ∙ ap (λ o. with_escape o (λ n. denoted_behind n (drop (i + 1) z))) found)
      ∙ sym (append_assoc out (e.byte ∷ []) (denoted_behind e.len (drop (i + 1) z)))

  pub denoted_nothing : (k : ℕ) → k ≡ 0 → get_or z i 0 ≡ 92 → escape (drop (i + 1) z) ≡ None → all ≡ out ++ denoted_behind k (drop i z) → all ≡ out ++ denoted_behind k (drop (i + 1) z)
  denoted_nothing k none is found g = subst (λ x. all ≡ out ++ denoted_behind x (drop (i + 1) z)) (sym none) (
      subst (λ x. all ≡ out ++ denoted_behind x (drop i z)) none g ∙ ap (λ x. out ++ denoted_behind 0 x) (drop_more z i 0 h) ∙ ap (λ x. out ++ x) (denoted_by (get_or z i 0) (drop (i + 1) z) is ∙ ap (λ o. with_escape o (λ n. denoted_behind n (drop (i + 1) z))) found))
