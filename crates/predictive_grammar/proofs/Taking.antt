-- What comes of asking for a token.
use Rattle.std.proofs.Common.{◌≡◌, ℕ, ◌<◌, ◌≤◌, Bool, true, false, if◌then◌else◌, nat_lt, List, [], ◌∷◌, Ok, Err, refl, ap, ◌∙◌, ltb-true, ltb-false, lt-ltb}
use Rattle.predictive_grammar.specs.Forms.{Signature}
use Rattle.predictive_grammar.specs.Steps.{Syntax, Nesting, Number, Limits, Outcome, Parser, fail, next_is, shift}
use Rattle.predictive_grammar.specs.Reading.{expect, choose}

module _ (G : Signature) (limits : Limits) (level items : ℕ) (test : G.Kind → Bool) where
  -- no token of such a kind comes, or one does, and it is over a limit or is taken
  pub data Expected : List G.Token → Outcome G.Label G.Token G.Token → Type 0 where
    other : {i : List G.Token} → next_is G.kind test i ≡ false → Expected i (Err (Syntax, i))
    high : {t : G.Token} {ts : List G.Token} → test (G.kind t) ≡ true → limits.levels ≤ level → Expected (t ∷ ts) (Err (Nesting, t ∷ ts))
    many : {t : G.Token} {ts : List G.Token} → test (G.kind t) ≡ true → level < limits.levels → limits.items ≤ items → Expected (t ∷ ts) (Err (Number, t ∷ ts))
    comes : {t : G.Token} {ts : List G.Token} → test (G.kind t) ≡ true → level < limits.levels → items < limits.items → Expected (t ∷ ts) (Ok (t, ts))

  by_tests : (t : G.Token) (ts : List G.Token) (b c d : Bool) → test (G.kind t) ≡ b → nat_lt level limits.levels ≡ c → nat_lt items limits.items ≡ d
      → Expected (t ∷ ts) (if b then (if c then (if d then Ok (t, ts) else Err (Number, t ∷ ts)) else Err (Nesting, t ∷ ts)) else Err (Syntax, t ∷ ts))
  by_tests t ts true true true e f g = comes e (ltb-true level limits.levels f) (ltb-true items limits.items g)
  by_tests t ts true true false e f g = many e (ltb-true level limits.levels f) (ltb-false items limits.items g)
  by_tests t ts true false d e f g = high e (ltb-false level limits.levels f)
  by_tests t ts false c d e f g = other e

  pub expected : (i : List G.Token) → Expected i (expect G limits level items test i)
  expected [] = other refl
  expected (t ∷ ts) = by_tests t ts (test (G.kind t)) (nat_lt level limits.levels) (nat_lt items limits.items) refl refl refl

  pub expect_comes : (t : G.Token) (ts : List G.Token) → test (G.kind t) ≡ true → level < limits.levels → items < limits.items → expect G limits level items test (t ∷ ts) ≡ Ok (t, ts)
  expect_comes t ts e f g =
      ap (λ (b : Bool). if b then (if nat_lt level limits.levels then (if nat_lt items limits.items then Ok (t, ts) else Err (Number, t ∷ ts)) else Err (Nesting, t ∷ ts)) else Err (Syntax, t ∷ ts)) e
      ∙ ap (λ (b : Bool). if b then (if nat_lt items limits.items then Ok (t, ts) else Err (Number, t ∷ ts)) else Err (Nesting, t ∷ ts)) (lt-ltb level limits.levels f)
      ∙ ap (λ (b : Bool). if b then Ok (t, ts) else Err (Number, t ∷ ts)) (lt-ltb items limits.items g)

  pub expect_other : (i : List G.Token) → next_is G.kind test i ≡ false → expect G limits level items test i ≡ Err (Syntax, i)
  expect_other i e = ap (λ (b : Bool). if b then shift limits level items i else fail Syntax i) e

module _ (G : Signature) {A : Type 0} (test : G.Kind → Bool) (one other_way : Parser G.Label G.Token A) where
  pub choose_one : (i : List G.Token) → next_is G.kind test i ≡ true → choose G test one other_way i ≡ one i
  choose_one i e = ap (λ (b : Bool). if b then one i else other_way i) e

  pub choose_other : (i : List G.Token) → next_is G.kind test i ≡ false → choose G test one other_way i ≡ other_way i
  choose_other i e = ap (λ (b : Bool). if b then one i else other_way i) e
