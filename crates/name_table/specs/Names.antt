-- Names and what they stand for, as a list with the latest entry first.
use Rattle.std.specs.Prelude.{ℕ, ◌-◌, ◌==◌, List, [], ◌∷◌, length, drop, Option, Some, None, if◌then◌else◌}
use Rattle.std.specs.Str.{bytes_eq}
use Rattle.name_table.specs.declared.found.Found.{Found}

module _ {T : Type 0} where
  -- the latest entry with a name: what the name stands for there, and how many entries are older
  abbrev pub latest : List ℕ → List (List ℕ × T) → Option (Found T)
  latest name [] = None
  latest name (e ∷ es) = if bytes_eq e.0 name then Some (record { meaning = e.1; position = length es }) else latest name es

  -- the oldest entries, so many of them
  abbrev pub oldest : ℕ → List (List ℕ × T) → List (List ℕ × T)
  oldest n es = drop (length es - n) es

  -- the entry with so many older ones stands for something else
  abbrev pub changed : ℕ → T → List (List ℕ × T) → List (List ℕ × T)
  changed at meaning [] = []
  changed at meaning (e ∷ es) = if length es == at then (e.0, meaning) ∷ es else e ∷ changed at meaning es
