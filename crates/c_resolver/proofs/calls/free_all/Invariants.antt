use Rattle.std.proofs.Common.{◌≡◌, ◌++◌, drop, map}
use Rattle.c_code.specs.Statements.{free_code}
use Rattle.c_resolver.specs.Shown.{looks}
use Rattle.c_resolver.proofs.calls.free_all.Given as goal

abbrev pub invariant-loop-value : goal.invariant-loop-value
invariant-loop-value l = l.codes ++ map (free_code (looks l.tables l.scope)) (drop l.value-index l.values) ≡ l.fn.codes ++ map
    (free_code (looks l.tables l.scope)) l.values
