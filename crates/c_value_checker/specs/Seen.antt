-- What the checker's tables say.
pub use Rattle.c_value_checker.specs.Takes.{takes_seen}
use Rattle.std.specs.Prelude.{ℕ, suc, ◌-◌, List, [], ◌∷◌, map, take, drop, reverse}
use Rattle.c_tree.specs.declared.kinds.Sort.{Sort}
use Rattle.c_tree.specs.Env.{Env, Entry}
use Rattle.c_value_checker.specs.declared.environment.Environment.{Environment}

-- 1. Scopes

-- a name, and what it stands for
abbrev pub entry : List ℕ × Sort → Entry
entry e = record { name = e.0; sort = e.1 }

-- the scopes of names, the last of which stands first: how many names each scope has is given, the innermost first; the outermost has all that are left
abbrev pub cut : List (List ℕ × Sort) → List ℕ → List (List Entry)
cut es [] = map entry es ∷ []
cut es (n ∷ ns) = map entry (take n es) ∷ cut (drop n es) ns

-- how many of so many names stand in front of the innermost scope
abbrev pub begin_of : ℕ → List ℕ → ℕ
begin_of count [] = 0
begin_of count (n ∷ ns) = count - n

-- the innermost scope has one name more; the outermost is not counted
abbrev pub one_more : List ℕ → List ℕ
one_more [] = []
one_more (n ∷ ns) = suc n ∷ ns

-- scopes without the innermost; one that is alone stays
abbrev pub without_innermost : List (List Entry) → List (List Entry)
without_innermost (s ∷ t ∷ ss) = t ∷ ss
without_innermost ss = ss

-- the innermost scope ends
abbrev pub closed : Env → Env
closed env = record env { scopes = without_innermost env.scopes }

-- 2. The whole

-- what is declared
abbrev pub seen : Environment → Env
seen e = record { scopes = cut e.names (reverse e.counts.items); structs = e.structs; signatures = map takes_seen e.signatures }
