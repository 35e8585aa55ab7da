-- The first fault so far.
use Rattle.std.specs.Prelude.{ℕ, suc, nat_le, nat_lt, if◌then◌else◌, List, [], ◌∷◌, Option, Some, None}
use Rattle.c_tree.specs.declared.kinds.Fault.{Fault}
use Rattle.c_tree.specs.Faults.{least, known, later}
use Rattle.c_value_checker.specs.declared.faults.Findings.{Findings}

-- faults that are not known before a place
abbrev pub raised : ℕ → List Fault → List Fault
raised n [] = []
raised n (f ∷ fs) = later n f ∷ raised n fs

-- with further faults
abbrev pub noted : Findings → List Fault → Findings
noted f fs = record f { first = least f.first (known f.last (raised f.floor fs)) }

-- what is noted from now on is not known by the token that begins there
abbrev pub begun : Findings → ℕ → Findings
begun f start = record f { floor = if nat_lt f.floor (suc start) then suc start else f.floor }

-- from where on a fault is known, if that is not behind `last`
abbrev pub known_from : ℕ → ℕ → ℕ → Option ℕ
known_from floor last since = if nat_le (if nat_le floor since then since else floor) last then Some (if nat_le floor since then since else floor) else None
