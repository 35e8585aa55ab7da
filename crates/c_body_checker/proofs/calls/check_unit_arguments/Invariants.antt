use Rattle.std.proofs.Common.{◌≡◌, drop}
use Rattle.c_value_checker.specs.Noted.{noted}
use Rattle.c_body_checker.specs.Rows.{fit_faults}
use Rattle.c_body_checker.proofs.calls.check_unit_arguments.Given as goal

abbrev pub invariant-loop-argument : goal.invariant-loop-argument
invariant-loop-argument l = (l.index ≡ l.argument-index) ×
    (noted l.findings (fit_faults (drop l.argument-index l.parameters) (drop l.argument-index l.arguments)) ≡ noted l.fn.findings
    (fit_faults l.parameters l.arguments))
