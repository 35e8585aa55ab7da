-- Machines that step and say what is observed, and a relation of states that blocks of steps keep.
use Rattle.std.specs.Prelude.{◌≡◌, ℕ, zero, suc, ◌+◌, ◌≤◌, ◌<◌, Bool, true, max, List, [], ◌++◌, Option, Some, None}
use Rattle.vg_base.specs.Run.{Run}

-- a machine: the next state and what the step says, the end of a state if it has one, and the greatest count in it
pub record Machine (S E F : Type 0) : Type 0 where
  pub next : S → S × List E
  pub ended : S → Option F
  pub top : S → ℕ

-- a state with an end stays as it is, and says nothing
abbrev pub unless_ended : {S E F : Type 0} → Option F → S → S × List E → S × List E
unless_ended None s o = o
unless_ended (Some e) s o = (s, [])

-- one step
abbrev pub move : {S E F : Type 0} → Machine S E F → S → S × List E
move M s = unless_ended (M.ended s) s (M.next s)

-- the state after n steps
abbrev pub moves : {S E F : Type 0} → Machine S E F → ℕ → S → S
moves M zero s = s
moves M (suc n) s = moves M n (move M s).0

-- what n steps say
abbrev pub said : {S E F : Type 0} → Machine S E F → ℕ → S → List E
said M zero s = []
said M (suc n) s = (move M s).1 ++ said M n (move M s).0

-- the greatest count of any state up to the one after n steps
abbrev pub most : {S E F : Type 0} → Machine S E F → ℕ → S → ℕ
most M zero s = M.top s
most M (suc n) s = max (M.top s) (most M n (move M s).0)

-- the run of a machine from a state
abbrev pub run_from : {S E F : Type 0} → Machine S E F → S → Run E F
run_from M s =
    record { trace = λ n. said M n s; ended = λ n. M.ended (moves M n s); peak = λ n. most M n s }

-- A block of steps on either side that says the same and keeps the relation. It has at most w steps, and s bounds how far the counts are apart.
pub record Answers {S T E F G : Type 0} (bounded : Bool) (s w : ℕ) (M : Machine S E F) (N : Machine T E G) (R : S → T → Type 0) (x : S) (y : T) : Type 0 where
  pub n : ℕ
  pub j : ℕ
  pub some : 0 < n
  pub some_too : 0 < j
  pub short : bounded ≡ true → n ≤ w
  pub short_too : bounded ≡ true → j ≤ w
  pub peak : most M n x ≤ N.top y + s
  pub peak_too : most N j y ≤ M.top x + s
  pub said : said M n x ≡ said N j y
  pub kept : R (moves M n x) (moves N j y)
