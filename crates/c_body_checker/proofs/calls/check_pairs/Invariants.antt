use Rattle.std.proofs.Common.{◌≡◌, drop, true}
use Rattle.c_value_checker.specs.Noted.{noted}
use Rattle.c_body_checker.specs.Rows.{parts_faults}
use Rattle.c_body_checker.proofs.calls.check_pairs.Given as goal

abbrev pub invariant-loop-argument : goal.invariant-loop-argument
invariant-loop-argument l = (l.count ≡ l.argument-index) ×
    (noted l.findings (parts_faults l.is_name (drop l.argument-index l.arguments)) ≡ noted l.fn.findings (parts_faults true l.arguments))
