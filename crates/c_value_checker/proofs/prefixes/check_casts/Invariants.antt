use Rattle.std.proofs.Common.{◌≡◌, drop}
use Rattle.c_value_checker.specs.Noted.{noted}
use Rattle.c_value_checker.specs.Prefixes.{casts_faults}
use Rattle.c_value_checker.specs.Seen.{seen}
use Rattle.c_value_checker.proofs.prefixes.check_casts.Given as goal

abbrev pub invariant-loop-operator : goal.invariant-loop-operator
invariant-loop-operator l = noted l.findings (casts_faults (seen l.environment) (drop l.operator-index l.operators)) ≡ noted l.fn.findings (casts_faults (seen l.environment) l.operators)
