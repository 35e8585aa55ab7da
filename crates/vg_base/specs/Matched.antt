-- Two runs that go in step.
use Rattle.std.specs.Prelude.{◌≡◌, ℕ, zero, suc, ◌+◌, ◌*◌, ◌≤◌, ◌<◌, true}
use Rattle.vg_base.specs.Run.{Run, Limits, SameEnd}

-- after n steps of X and j of Y the same was said, and the ends are mates
pub record Same {E F G : Type 0} (mate : F → G → Type 0) (X : Run E F) (Y : Run E G) (n j : ℕ) : Type 0 where
  pub trace : X.trace n ≡ Y.trace j
  pub ended : SameEnd mate (X.ended n) (Y.ended j)

-- the pair (n', j') may follow the pair (n, j)
pub record Near {E F G : Type 0} (l : Limits) (X : Run E F) (Y : Run E G) (n j n' j' : ℕ) : Type 0 where
  pub rises : n < n'
  pub rises_too : j < j'
  pub peak : X.peak n' ≤ Y.peak j + l.s
  pub peak_too : Y.peak j' ≤ X.peak n + l.s
  pub steps : l.bounded ≡ true → j' ≤ l.a * (n + 1) + l.b
  pub steps_too : l.bounded ≡ true → n' ≤ l.c * (j + 1) + l.d

-- k pairs follow (n, j), and both runs look the same at each
abbrev pub Pairs : {E F G : Type 0} → (F → G → Type 0) → Limits → Run E F → Run E G → ℕ → ℕ → ℕ → Type 0
Pairs mate l X Y zero n j = Same mate X Y n j
Pairs mate l X Y (suc k) n j = Same mate X Y n j × ((n' : ℕ) × (j' : ℕ) × Near l X Y n j n' j' × Pairs mate l X Y k n' j')

-- from the start on, any number of pairs
abbrev pub Matched : {E F G : Type 0} → (F → G → Type 0) → Limits → Run E F → Run E G → Type 0
Matched mate l X Y = (k : ℕ) → Pairs mate l X Y k 0 0
