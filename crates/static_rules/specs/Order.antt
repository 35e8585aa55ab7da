-- The order of refusals.
use Rattle.std.specs.Prelude.{ℕ, Bool, false, ◌&&◌, ◌||◌, ◌==◌, nat_lt, List, [], ◌∷◌}
use Rattle.static_rules.specs.declared.rules.Refusal.{Refusal}
use Rattle.static_rules.specs.Rules.{row_number}

-- what refusals are compared by, one after another: the phase, the file, the start, the end, and the row of the rule
abbrev pub key : Refusal → List ℕ
key a = a.phase ∷ a.span.file ∷ a.span.start ∷ a.span.end ∷ row_number a.phase a.rule ∷ []

-- whether a list of numbers stands before another: at the first place where they differ it has the smaller number
abbrev pub is_before : List ℕ → List ℕ → Bool
is_before [] v = false
is_before (x ∷ u) [] = false
is_before (x ∷ u) (y ∷ v) = nat_lt x y || (x == y && is_before u v)

abbrev pub is_earlier : Refusal → Refusal → Bool
is_earlier a b = is_before (key a) (key b)
