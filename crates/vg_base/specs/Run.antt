-- Runs, and how two of them agree.
use Rattle.std.specs.Prelude.{◌≡◌, ℕ, ◌+◌, ◌*◌, ◌≤◌, Bool, true, List, ◌++◌, Option, Some, None}

-- a run: what was said, the end if there is one, and the greatest count so far, after n steps
pub record Run (E F : Type 0) : Type 0 where
  pub trace : ℕ → List E
  pub ended : ℕ → Option F
  pub peak : ℕ → ℕ

-- the second list goes on from the first
abbrev pub Begins : {E : Type 0} → List E → List E → Type 0
Begins {E} xs ys = (rest : List E) × (xs ++ rest ≡ ys)

-- what was said stays, an end stays, and the greatest count never falls
pub record IsRun {E F : Type 0} (X : Run E F) : Type 0 where
  pub grows : (n m : ℕ) → n ≤ m → Begins (X.trace n) (X.trace m)
  pub stays : (n m : ℕ) (e : F) → n ≤ m → X.ended n ≡ Some e → X.ended m ≡ Some e
  pub climbs : (n m : ℕ) → n ≤ m → X.peak n ≤ X.peak m

-- where the first has an end, the second has its mate
abbrev pub EndGoes : {F G : Type 0} → (F → G → Type 0) → Option F → Option G → Type 0
EndGoes {F} {G} mate o p = (e : F) → o ≡ Some e → (f : G) × (p ≡ Some f) × mate e f

-- the one has an end exactly where the other has its mate
abbrev pub SameEnd : {F G : Type 0} → (F → G → Type 0) → Option F → Option G → Type 0
SameEnd mate None None = Unit {0}
SameEnd mate (Some e) (Some f) = mate e f
SameEnd mate None (Some f) = ⊥
SameEnd mate (Some e) None = ⊥

-- between two meanings with the same ends
abbrev pub SameEndAs : {F : Type 0} → F → F → Type 0
SameEndAs e f = e ≡ f

abbrev pub flipped : {F G : Type 0} → (F → G → Type 0) → G → F → Type 0
flipped mate g f = mate f g

-- how far two runs may be apart: their counts by s, and their steps by the four numbers, where they are bounded at all
pub record Limits : Type 0 where
  pub bounded : Bool
  pub s : ℕ
  pub a : ℕ
  pub b : ℕ
  pub c : ℕ
  pub d : ℕ

-- the first n steps of X are met by the first m of Y
pub record Goes {E F G : Type 0} (mate : F → G → Type 0) (bounded : Bool) (s a b : ℕ) (X : Run E F) (Y : Run E G) (n m : ℕ) : Type 0 where
  pub steps : bounded ≡ true → m ≤ a * n + b
  pub trace : Begins (X.trace n) (Y.trace m)
  pub ended : EndGoes mate (X.ended n) (Y.ended m)
  pub peak : Y.peak m ≤ X.peak n + s

abbrev pub Forward : {E F G : Type 0} → (F → G → Type 0) → Bool → ℕ → ℕ → ℕ → Run E F → Run E G → Type 0
Forward mate bounded s a b X Y = (n : ℕ) → (m : ℕ) × Goes mate bounded s a b X Y n m

-- each run meets the steps of the other
pub record Agrees {E F G : Type 0} (mate : F → G → Type 0) (l : Limits) (X : Run E F) (Y : Run E G) : Type 0 where
  pub forward : Forward mate l.bounded l.s l.a l.b X Y
  pub backward : Forward (flipped mate) l.bounded l.s l.c l.d Y X
