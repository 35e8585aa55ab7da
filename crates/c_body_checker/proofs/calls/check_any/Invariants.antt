use Rattle.std.proofs.Common.{◌≡◌, drop}
use Rattle.c_value_checker.specs.Noted.{noted}
use Rattle.c_body_checker.specs.Rows.{any_faults}
use Rattle.c_body_checker.proofs.calls.check_any.Given as goal

abbrev pub invariant-loop-argument : goal.invariant-loop-argument
invariant-loop-argument l = noted l.findings (any_faults (drop l.argument-index l.arguments)) ≡ noted l.fn.findings (any_faults l.arguments)
