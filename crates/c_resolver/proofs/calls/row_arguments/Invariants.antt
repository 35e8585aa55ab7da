use Rattle.std.proofs.Common.{◌≡◌, ◌++◌, drop, map}
use Rattle.c_body_checker.specs.Rows.{parameter_seen}
use Rattle.c_code.specs.Statements.{row_codes}
use Rattle.c_resolver.specs.Shown.{looks}
use Rattle.c_resolver.proofs.calls.row_arguments.Given as goal

abbrev pub invariant-loop-index : goal.invariant-loop-index
invariant-loop-index l = l.codes ++ row_codes (looks l.tables l.scope) (map parameter_seen (drop l.index l.parameters)) (drop l.index l.values)
    ≡ row_codes (looks l.tables l.scope) (map parameter_seen l.parameters) l.values
