use Rattle.std.proofs.Common.{◌≡◌, drop}
use Rattle.c_value_checker.specs.Noted.{noted}
use Rattle.c_body_checker.specs.Rows.{row_faults}
use Rattle.c_body_checker.proofs.calls.check_row_arguments.Given as goal

abbrev pub invariant-loop-argument : goal.invariant-loop-argument
invariant-loop-argument l = (l.index ≡ l.argument-index) ×
    (noted l.findings (row_faults (drop l.argument-index l.parameters) (drop l.argument-index l.arguments)) ≡ noted l.fn.findings
    (row_faults l.parameters l.arguments))
