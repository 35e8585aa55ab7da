use Rattle.std.proofs.Common.{◌≡◌, ◌++◌, drop, map}
use Rattle.c_tree.specs.Unit.{fields_declared}
use Rattle.c_value_checker.specs.Seen.{seen}
use Rattle.c_value_checker.specs.Structures.{field_seen}
use Rattle.c_checker.proofs.tables.fields_of.Given as goal

abbrev pub invariant-loop-local : goal.invariant-loop-local
invariant-loop-local l = map field_seen l.fields ++ fields_declared (seen l.environment) (drop l.local-index l.locals) ≡ fields_declared (seen l.environment) l.locals
