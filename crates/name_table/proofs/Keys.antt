-- What a change at one name leaves at the others, for the keys of the index.
use Rattle.std.specs.Prelude.{◌≡◌, ℕ, List, Option, if◌then◌else◌}
use Rattle.std.specs.Borrow.{Bor}
use Rattle.std.specs.HashMap.{HashMap, UpdatesBy, get_by}
use Rattle.std.specs.Str.{bytes_eq}
use Rattle.name_table.specs.declared.key.Key.{Key}

pub updates_name : {X S : Type 0} (name : Bor (List ℕ)) (old new : HashMap Key X S) (is : Option X) → UpdatesBy (λ x y. bytes_eq x.name.now y.name.now) (λ k. bytes_eq name.now k.name.now) old new is
    → (other : List ℕ) → get_by (λ k. bytes_eq other k.name.now) new ≡ (if bytes_eq name.now other then is else get_by (λ k. bytes_eq other k.name.now) old)
updates_name name old new is updates other = updates.0 (record { name = record name { now = other } })
