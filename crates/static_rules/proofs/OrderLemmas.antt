-- The order of refusals is a strict total order.
use Rattle.std.proofs.Common.{zero, if◌then◌else◌, ◌≡◌, ◌⊎◌, inl, inr, ℕ, suc, ◌<◌, ◌≤◌, Bool, true, false, ◌||◌, ◌&&◌, ◌==◌, nat_lt, List, [], ◌∷◌, length, Some, refl, sym, ap, ◌∙◌, IsTrue, ⊎_elim, slice_get, arith}
use Rattle.std.proofs.lemmas.Bool.{eqb-true, eq-eqb, lt-ltb, le-ltb, ltb-true}
use Rattle.static_rules.specs.Order.{key, is_before, is_earlier}
use Rattle.static_rules.specs.Rules.{row_number}
use Rattle.static_rules.specs.declared.rules.Refusal.{Refusal}
use Rattle.static_rules.specs.declared.rules.Rule.{Rule}
use Rattle.static_rules.specs.declared.rules.Rule.TheVariants.{M1, M2, L1, L2, L3, L4, M4, S1, S2, M5, U1, M3, N2, N5, N6, T5, T6, T7, N1, N3, N4, T1, T2, T3, T4, T8, T9, T10, T11, T12, T13, T14, F1, F2, F3, F4, F5, X1, X2, X3, A1, A2, A3, A4, O1, O2, O3, O4, O5, O6}

or_and : (p q t : Bool) → (p || (q && t)) ≡ true → (p ≡ true) ⊎ ((q ≡ true) × (t ≡ true))
or_and true q t h = inl refl
or_and false true t h = inr (refl, h)
or_and false false t h = absurd cc

-- the first numbers decide, or they are equal and the rest decides
by_first : (x y : ℕ) (t : Bool) → (nat_lt x y || (x == y && t)) ≡ true → (x < y) ⊎ ((x ≡ y) × (t ≡ true))
by_first x y t h = ⊎_elim (λ p. inl (ltb-true x y p)) (λ p. inr (eqb-true x y p.0, p.1)) (or_and (nat_lt x y) (x == y) t h)

by_less : (x y : ℕ) (t : Bool) → x < y → (nat_lt x y || (x == y && t)) ≡ true
by_less x y t h = rw (lt-ltb x y h)

by_rest : (x y : ℕ) (t : Bool) → x ≡ y → t ≡ true → (nat_lt x y || (x == y && t)) ≡ true
by_rest x y t e h = let not_less : y ≤ x = omega arith in rw (le-ltb x y not_less, eq-eqb x y e, h)

irreflexive : (u : List ℕ) → is_before u u ≡ true → ⊥
irreflexive [] h = cc
irreflexive (x ∷ u) h = ⊎_elim (λ (p : x < x). absurd (omega arith)) (λ (p : (x ≡ x) × (is_before u u ≡ true)). irreflexive u p.1) (by_first x x (is_before u u) h)

transitive : (u v w : List ℕ) → is_before u v ≡ true → is_before v w ≡ true → is_before u w ≡ true
transitive [] v w h k = absurd cc
transitive (x ∷ u) [] w h k = absurd cc
transitive (x ∷ u) (y ∷ v) [] h k = absurd cc
transitive (x ∷ u) (y ∷ v) (z ∷ w) h k =
    ⊎_elim
    (λ (p : x < y). ⊎_elim (λ (q : y < z). by_less x z (is_before u w) (omega arith)) (λ (q : (y ≡ z) × (is_before v w ≡ true)). by_less x z (is_before u w) (omega arith)) (by_first y z (is_before v w) k))
    (λ (p : (x ≡ y) × (is_before u v ≡ true)). ⊎_elim (λ (q : y < z). by_less x z (is_before u w) (omega arith)) (λ (q : (y ≡ z) × (is_before v w ≡ true)). by_rest x z (is_before u w) (p.0 ∙ q.0) (transitive u v w p.1 q.1)) (by_first y z (is_before v w) k))
    (by_first x y (is_before u v) h)

compared : (x y : ℕ) → (x < y) ⊎ ((y < x) ⊎ (x ≡ y))
compared zero zero = inr (inr refl)
compared zero (suc y) = inl (omega arith)
compared (suc x) zero = inr (inl (omega arith))
compared (suc x) (suc y) = ⊎_elim (λ (p : x < y). inl (omega arith)) (λ (p : (y < x) ⊎ (x ≡ y)). inr (⊎_elim (λ (q : y < x). inl (omega arith)) (λ (q : x ≡ y). inr (ap suc q)) p)) (compared x y)

total : (u v : List ℕ) → length u ≡ length v → (u ≡ v → ⊥) → (is_before u v ≡ true) ⊎ (is_before v u ≡ true)
total [] [] e ne = absurd (ne refl)
total [] (y ∷ v) e ne = absurd (omega arith)
total (x ∷ u) [] e ne = absurd (omega arith)
total (x ∷ u) (y ∷ v) e ne =
    ⊎_elim
    (λ (p : x < y). inl (by_less x y (is_before u v) p))
    (λ (p : (y < x) ⊎ (x ≡ y)). ⊎_elim
    (λ (q : y < x). inr (by_less y x (is_before v u) q))
    (λ (q : x ≡ y). ⊎_elim (λ (r : is_before u v ≡ true). inl (by_rest x y (is_before u v) q r)) (λ (r : is_before v u ≡ true). inr (by_rest y x (is_before v u) (sym q) r))
    (total u v (omega arith) (λ (same : u ≡ v). ne (cc))))
    p)
    (compared x y)

-- the rules by the numbers of their rows, where the place 0 is filled, since the numbers begin with 1; U1 stands twice
abbrev rules_by_row : List Rule
rules_by_row = M1 ∷ M1 ∷ M2 ∷ L1 ∷ L2 ∷ L3 ∷ L4 ∷ M4 ∷ S1 ∷ S2 ∷ M5 ∷ U1 ∷ M3 ∷ N2 ∷ N5 ∷ N6 ∷ T5 ∷ T6 ∷ T7 ∷ N1 ∷ N3 ∷ N4 ∷ T1 ∷ T2 ∷ T3 ∷ T4 ∷ T8 ∷ T9 ∷ T10 ∷ T11 ∷ T12 ∷ T13 ∷ T14 ∷ U1 ∷ F1 ∷ F2 ∷ F3 ∷ F4 ∷ F5 ∷ X1 ∷ X2 ∷ X3 ∷ A1 ∷ A2 ∷ A3 ∷ A4 ∷ O1 ∷ O2 ∷ O3 ∷ O4 ∷ O5 ∷ O6 ∷ []

row_is : (phase : ℕ) (r : Rule) → slice_get rules_by_row (row_number phase r) ≡ Some r
row_is phase U1 = go (phase == 4)
  where
    go : (b : Bool) → slice_get rules_by_row (if b then 33 else 11) ≡ Some U1
    go true = refl
    go false = refl
row_is phase M1 = refl
row_is phase M2 = refl
row_is phase L1 = refl
row_is phase L2 = refl
row_is phase L3 = refl
row_is phase L4 = refl
row_is phase M4 = refl
row_is phase S1 = refl
row_is phase S2 = refl
row_is phase M5 = refl
row_is phase M3 = refl
row_is phase N2 = refl
row_is phase N5 = refl
row_is phase N6 = refl
row_is phase T5 = refl
row_is phase T6 = refl
row_is phase T7 = refl
row_is phase N1 = refl
row_is phase N3 = refl
row_is phase N4 = refl
row_is phase T1 = refl
row_is phase T2 = refl
row_is phase T3 = refl
row_is phase T4 = refl
row_is phase T8 = refl
row_is phase T9 = refl
row_is phase T10 = refl
row_is phase T11 = refl
row_is phase T12 = refl
row_is phase T13 = refl
row_is phase T14 = refl
row_is phase F1 = refl
row_is phase F2 = refl
row_is phase F3 = refl
row_is phase F4 = refl
row_is phase F5 = refl
row_is phase X1 = refl
row_is phase X2 = refl
row_is phase X3 = refl
row_is phase A1 = refl
row_is phase A2 = refl
row_is phase A3 = refl
row_is phase A4 = refl
row_is phase O1 = refl
row_is phase O2 = refl
row_is phase O3 = refl
row_is phase O4 = refl
row_is phase O5 = refl
row_is phase O6 = refl

abbrev made : Rule → ℕ → ℕ → ℕ → ℕ → Refusal
made rule phase file start end = record { rule = rule; phase = phase; span = record { file = file; start = start; end = end } }

same_parts : (r s : Rule) (p q f g x y u v : ℕ) → r ≡ s → p ≡ q → f ≡ g → x ≡ y → u ≡ v → made r p f x u ≡ made s q g y v
same_parts r s p q f g x y u v a b c d e = rw (a, b, c, d, e) refl

-- what refusals are compared by tells them apart
same_key : (a b : Refusal) → key a ≡ key b → a ≡ b
same_key a b e =
    let phase : a.phase ≡ b.phase = cc in
    let row : row_number a.phase a.rule ≡ row_number b.phase b.rule = cc in
    let found : Some a.rule ≡ Some b.rule = sym (row_is a.phase a.rule) ∙ ap (slice_get rules_by_row) row ∙ row_is b.phase b.rule in
    let rule : a.rule ≡ b.rule = cc in
    let file : a.span.file ≡ b.span.file = cc in
    let start : a.span.start ≡ b.span.start = cc in
    let end : a.span.end ≡ b.span.end = cc in
    same_parts a.rule b.rule a.phase b.phase a.span.file b.span.file a.span.start b.span.start a.span.end b.span.end rule phase file start end

pub earlier_irreflexive : (a : Refusal) → IsTrue (is_earlier a a) → ⊥
earlier_irreflexive a = irreflexive (key a)

pub earlier_transitive : (a b c : Refusal) → IsTrue (is_earlier a b) → IsTrue (is_earlier b c) → IsTrue (is_earlier a c)
earlier_transitive a b c = transitive (key a) (key b) (key c)

pub earlier_total : (a b : Refusal) → (a ≡ b → ⊥) → IsTrue (is_earlier a b) ⊎ IsTrue (is_earlier b a)
earlier_total a b ne = total (key a) (key b) refl (λ (same : key a ≡ key b). ne (same_key a b same))
