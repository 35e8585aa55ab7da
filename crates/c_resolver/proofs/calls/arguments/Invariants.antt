use Rattle.std.proofs.Common.{◌≡◌, ◌++◌, drop}
use Rattle.c_code.specs.Statements.{argument_codes}
use Rattle.c_resolver.specs.Shown.{looks}
use Rattle.c_resolver.proofs.calls.arguments.Given as goal

abbrev pub invariant-loop-index : goal.invariant-loop-index
invariant-loop-index l = l.codes ++ argument_codes (looks l.tables l.scope) (drop l.index l.wanted) (drop l.index l.values) ≡ argument_codes
    (looks l.tables l.scope) l.wanted l.values
