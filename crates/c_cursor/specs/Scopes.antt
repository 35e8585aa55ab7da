-- The names in scope.
use Rattle.std.specs.Prelude.{ℕ, map, List, [], ◌∷◌}
use Rattle.c_tree.specs.Names as names
use Rattle.c_nodes.specs.declared.role.Role.{Role}
use Rattle.c_nodes.specs.Roles.{role_of}
use Rattle.c_cursor.specs.declared.names.Declared.{Declared}
use Rattle.c_cursor.specs.declared.names.Names.{Names}

-- a name and what it is
abbrev pub declared : List ℕ × Role → names.Declared
declared e = record { name = e.0; role = role_of e.1 }

-- the names, the last declared first
abbrev pub scope : List (List ℕ × Role) → names.Names
scope es = map declared es

-- the names in scope
abbrev pub names_of : Names → names.Names
names_of n = scope n.table

-- names behind declarations
abbrev pub declared_behind : names.Names → List Declared → names.Names
declared_behind ns [] = ns
declared_behind ns (d ∷ ds) = declared_behind (declared (d.name.now, d.role) ∷ ns) ds
