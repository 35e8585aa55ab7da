-- Fronts of lists of bytes, and how far classes of bytes go in them.
use Rattle.std.proofs.Common.{◌≡◌, ℕ, zero, suc, ◌+◌, ◌<◌, ◌≤◌, Bool, true, false, cond, ◌&&◌, ◌==◌, List, [], ◌∷◌, ◌++◌, length, take, drop, get_or, refl, sym, ap, ap₂, ◌∙◌, arith}
use Rattle.std.proofs.lemmas.Bool.{cond_both, and_parts, eqb-true}
use Rattle.std.proofs.lemmas.List.{length-take-le}
use Rattle.c_lexer.specs.declared.bytes.Class.{Class}
use Rattle.c_lexer.specs.Bytes.{is_in, run}
use Rattle.c_lexer.proofs.FitLemmas.{run_within}

pub first_of : (u v : List ℕ) (d : ℕ) → 0 < length u → get_or (u ++ v) 0 d ≡ get_or u 0 d
first_of [] v d h = absurd (omega arith)
first_of (b ∷ u) v d h = refl

pub drop_front : (u v : List ℕ) → drop (length u) (u ++ v) ≡ v
drop_front [] v = refl
drop_front (b ∷ u) v = drop_front u v

pub take_front : (u v : List ℕ) → take (length u) (u ++ v) ≡ u
take_front [] v = refl
take_front (b ∷ u) v = ap (λ w. b ∷ w) (take_front u v)

pub take_first : (n : ℕ) (z : List ℕ) → 0 < n → get_or (take n z) 0 0 ≡ get_or z 0 0
take_first zero z h = absurd (omega arith)
take_first (suc n) [] h = refl
take_first (suc n) (b ∷ z) h = refl

pub cons_of : (x : ℕ) (z : List ℕ) → 0 < x → (get_or z 0 0 == x) ≡ true → z ≡ x ∷ drop 1 z
cons_of x [] some h = let e : 0 ≡ x = eqb-true 0 x h in absurd (omega arith)
cons_of x (b ∷ z) some h = ap (λ y. y ∷ z) (eqb-true b x h)

pub two_bytes : (x y : ℕ) (z : List ℕ) → 0 < x → 0 < y → (get_or z 0 0 == x && get_or z 1 0 == y) ≡ true → z ≡ x ∷ y ∷ drop 2 z
two_bytes x y [] a b h = let same : 0 ≡ x = eqb-true 0 x (and_parts (0 == x) (0 == y) h).0 in absurd (omega arith)
two_bytes x y (c ∷ []) a b h = let same : 0 ≡ y = eqb-true 0 y (and_parts (c == x) (0 == y) h).1 in absurd (omega arith)
two_bytes x y (c ∷ d ∷ z) a b h = ap₂ (λ (m n : ℕ). m ∷ n ∷ z) (eqb-true c x (and_parts (c == x) (d == y) h).0) (eqb-true d y (and_parts (c == x) (d == y) h).1)

pub take_one : (z : List ℕ) → 0 < length z → take 1 z ≡ get_or z 0 0 ∷ []
take_one [] h = absurd (omega arith)
take_one (b ∷ z) h = refl

pub take_two : (z : List ℕ) → 1 < length z → take 2 z ≡ get_or z 0 0 ∷ get_or z 1 0 ∷ []
take_two [] h = absurd (omega arith)
take_two (b ∷ []) h = absurd (omega arith)
take_two (b ∷ c ∷ z) h = refl

pub take_three : (z : List ℕ) → 2 < length z → take 3 z ≡ get_or z 0 0 ∷ get_or z 1 0 ∷ get_or z 2 0 ∷ []
take_three [] h = absurd (omega arith)
take_three (b ∷ []) h = absurd (omega arith)
take_three (b ∷ c ∷ []) h = absurd (omega arith)
take_three (b ∷ c ∷ d ∷ z) h = refl

-- ---- runs

-- bytes of a class go on as far as what stands behind them does
pub run_append : (c : Class) (u v : List ℕ) → run c u ≡ length u → run c (u ++ v) ≡ length u + run c v
run_append c [] v h = omega arith
run_append c (b ∷ u) v given = cond_both (is_in c b) (suc (run c u)) 0 (λ n. n ≡ suc (length u) → cond (is_in c b) (suc (run c (u ++ v))) 0 ≡ suc (length u) + run c v)
    (λ e h. rw e (let more : run c (u ++ v) ≡ length u + run c v = run_append c u v (omega arith) in omega arith)) (λ e h. absurd (omega arith)) given

pub run_more : (c : Class) (u v : List ℕ) → run c u ≤ run c (u ++ v)
run_more c [] v = omega arith
run_more c (b ∷ u) v = cond_both (is_in c b) (suc (run c u)) 0 (λ n. n ≤ cond (is_in c b) (suc (run c (u ++ v))) 0) (λ e. rw e (let more : run c u ≤ run c (u ++ v) = run_more c u v in omega arith)) (λ e. omega arith)

-- a run that goes on to a place goes on to it also where the bytes end there
pub run_front : (c : Class) (n : ℕ) (z : List ℕ) → n ≤ run c z → run c (take n z) ≡ n
run_front c zero z h = refl
run_front c (suc n) [] h = absurd (omega arith)
run_front c (suc n) (b ∷ z) given = cond_both (is_in c b) (suc (run c z)) 0 (λ m. suc n ≤ m → run c (b ∷ take n z) ≡ suc n)
    (λ e h. rw e (ap (λ (m : ℕ). suc m) (run_front c n z (omega arith)))) (λ e h. absurd (omega arith)) given

-- the bytes that a run takes
pub front_run : (c : Class) (z : List ℕ) → (length (take (run c z) z) ≡ run c z) × (run c (take (run c z) z) ≡ length (take (run c z) z))
front_run c z = let len : length (take (run c z) z) ≡ run c z = length-take-le (run c z) z (run_within c z) in (len, run_front c (run c z) z (omega arith) ∙ sym len)

-- behind a run no byte of the class stands
pub run_rest : (c : Class) (z : List ℕ) → run c (drop (run c z) z) ≡ 0
run_rest c [] = refl
run_rest c (b ∷ z) = go (is_in c b) refl (run_rest c z)
  where
    go : (t : Bool) → is_in c b ≡ t → run c (drop (run c z) z) ≡ 0 → run c (drop (cond t (suc (run c z)) 0) (b ∷ z)) ≡ 0
    go true e more = more
    go false e more = rw e refl

-- bytes of a class are bytes of a larger class
pub run_wider : (c d : Class) (z : List ℕ) → ((b : ℕ) → is_in c b ≡ true → is_in d b ≡ true) → run c z ≡ length z → run d z ≡ length z
run_wider c d [] wider h = refl
run_wider c d (b ∷ z) wider given = cond_both (is_in c b) (suc (run c z)) 0 (λ n. n ≡ suc (length z) → run d (b ∷ z) ≡ suc (length z))
    (λ e h. rw (wider b e) (ap (λ (n : ℕ). suc n) (run_wider c d z wider (omega arith)))) (λ e h. absurd (omega arith)) given

pub first_in : (c : Class) (d : List ℕ) → 0 < length d → run c d ≡ length d → is_in c (get_or d 0 0) ≡ true
first_in c [] some h = absurd (omega arith)
first_in c (b ∷ d) some h = go (is_in c b) h
  where
    go : (t : Bool) → cond t (suc (run c d)) 0 ≡ suc (length d) → t ≡ true
    go true h = refl
    go false h = absurd (omega arith)

pub first_out : (c : Class) (v : List ℕ) → is_in c 0 ≡ false → run c v ≡ 0 → is_in c (get_or v 0 0) ≡ false
first_out c [] none h = none
first_out c (b ∷ v) none h = go (is_in c b) h
  where
    go : (t : Bool) → cond t (suc (run c v)) 0 ≡ 0 → t ≡ false
    go true h = absurd (omega arith)
    go false h = refl
