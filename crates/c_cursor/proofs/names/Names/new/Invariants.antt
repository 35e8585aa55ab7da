use Rattle.std.proofs.Common.{◌≡◌, drop}
use Rattle.c_tree.specs.Names.{library_names}
use Rattle.c_cursor.specs.Scopes.{declared_behind, names_of}
use Rattle.c_cursor.proofs.names.Names.new.Given as goal

-- those that are left come behind those that are declared
abbrev pub invariant-loop-declared : goal.invariant-loop-declared
invariant-loop-declared l = declared_behind (names_of l.names) (drop l.declared-index l.declared-items) ≡ library_names
