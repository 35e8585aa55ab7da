-- The order of tokens.
use Rattle.std.specs.Prelude.{ℕ, ◌<◌, ◌≤◌, [], ◌∷◌}
use Rattle.c_tree.specs.Words.{Word}

-- Tokens in order, in front of a place: each starts before it ends, and ends no later than the next starts.
abbrev pub InOrder : ℕ → Word → Type 0
InOrder n [] = Unit {0}
InOrder n (t ∷ []) = (t.start < t.end) × (t.end ≤ n)
InOrder n (t ∷ s ∷ w) = (t.start < t.end) × (t.end ≤ s.start) × InOrder n (s ∷ w)
