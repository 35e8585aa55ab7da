-- How a table of names is stored: entries, each of which remembers what it hides, and an index of the latest ones.
use Rattle.std.specs.Prelude.{◌≡◌, ℕ, List, [], ◌∷◌, map, reverse, Option}
use Rattle.std.specs.Option.{option_map}
use Rattle.std.specs.Str.{bytes_eq}
use Rattle.std.specs.HashMap.{HashMap, get_by}
use Rattle.name_table.specs.declared.entry.Entry.{Entry}
use Rattle.name_table.specs.declared.key.Key.{Key}
use Rattle.name_table.specs.Names.{latest}

module _ {T : Type 0} where
  -- what callers see of an entry
  abbrev pub seen : Entry T → List ℕ × T
  seen e = (e.name.now, e.meaning)

  -- what callers see of the stored entries, which stand with the oldest first
  abbrev pub listed : List (Entry T) → List (List ℕ × T)
  listed es = map seen (reverse es)

  -- the position of the latest entry with a name
  abbrev pub position : List ℕ → List (List ℕ × T) → Option ℕ
  position name es = option_map (λ f. f.position) (latest name es)

  -- each entry, the latest first, remembers the latest older one with its name
  abbrev pub IsLinked : List (Entry T) → Type 0
  IsLinked [] = Unit {0}
  IsLinked (e ∷ es) = (e.hidden ≡ position e.name.now (map seen es)) × IsLinked es

  -- the index gives the position of the latest entry of each name
  abbrev pub IsIndexed : {S : Type 0} → HashMap Key ℕ S → List (List ℕ × T) → Type 0
  IsIndexed index es = (name : List ℕ) → get_by (λ k. bytes_eq name k.name.now) index ≡ position name es
