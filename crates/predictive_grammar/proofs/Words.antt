-- Words, their tokens, and limits.
use Rattle.std.proofs.Common.{◌≡◌, ℕ, suc, ◌+◌, ◌≤◌, List, [], ◌∷◌, ◌++◌, length, refl, ap, ◌∙◌, append_assoc, length-append, arith}
use Rattle.predictive_grammar.specs.Follows.{Letter, raw}
use Rattle.predictive_grammar.specs.Steps.{Limits}
use Rattle.predictive_grammar.specs.Exact.{IsWithin}

pub raw-append : {T : Type 0} (u v : List (Letter T)) → raw (u ++ v) ≡ raw u ++ raw v
raw-append [] v = refl
raw-append (x ∷ u) v = ap (λ (ts : List _). x.token ∷ ts) (raw-append u v)

pub raw-then : {T : Type 0} (u v : List (Letter T)) (r : List T) → raw (u ++ v) ++ r ≡ raw u ++ (raw v ++ r)
raw-then u v r = ap (λ (ts : List _). ts ++ r) (raw-append u v) ∙ append_assoc (raw u) (raw v) r

pub raw-length : {T : Type 0} (u : List (Letter T)) → length (raw u) ≡ length u
raw-length [] = refl
raw-length (x ∷ u) = let h = raw-length u in omega arith

-- what stands behind a word is no longer than the whole
pub behind_length : {T : Type 0} (u : List (Letter T)) (i j : List T) → i ≡ raw u ++ j → length i ≡ length u + length j
behind_length u i j e = omega (arith, ap length e, length-append (raw u) j, raw-length u)

pub within-append : {T : Type 0} (limits : Limits) (u v : List (Letter T)) → IsWithin limits u → IsWithin limits v → IsWithin limits (u ++ v)
within-append limits [] v a b = b
within-append limits (x ∷ u) v a b = (a.0, a.1, within-append limits u v a.2 b)

pub within-front : {T : Type 0} (limits : Limits) (u v : List (Letter T)) → IsWithin limits (u ++ v) → IsWithin limits u
within-front limits [] v h = tt
within-front limits (x ∷ u) v h = (h.0, h.1, within-front limits u v h.2)

pub within-back : {T : Type 0} (limits : Limits) (u v : List (Letter T)) → IsWithin limits (u ++ v) → IsWithin limits v
within-back limits [] v h = h
within-back limits (x ∷ u) v h = within-back limits u v h.2

-- both limits are no less
pub record Grows (limits more : Limits) : Type 0 where
  pub levels : limits.levels ≤ more.levels
  pub items : limits.items ≤ more.items

pub within-more : {T : Type 0} (limits more : Limits) (u : List (Letter T)) → Grows limits more → IsWithin limits u → IsWithin more u
within-more limits more [] g h = tt
within-more limits more (x ∷ u) g h = (omega (arith, h.0, g.levels), omega (arith, h.1, g.items), within-more limits more u g h.2)

-- a number that every level and number of items in a word is below
pub size : {T : Type 0} → List (Letter T) → ℕ
size [] = 0
size (x ∷ u) = suc (x.level + x.items + size u)

pub within-size : {T : Type 0} (limits : Limits) (u : List (Letter T)) → size u ≤ limits.levels → size u ≤ limits.items → IsWithin limits u
unfolding size
within-size limits [] a b = tt
within-size limits (x ∷ u) a b = (omega arith, omega arith, within-size limits u (omega arith) (omega arith))
