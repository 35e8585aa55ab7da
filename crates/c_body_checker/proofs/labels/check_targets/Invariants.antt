use Rattle.std.proofs.Common.{◌≡◌, drop}
use Rattle.c_tree.specs.Unit.{target_faults}
use Rattle.c_value_checker.specs.Noted.{noted}
use Rattle.c_body_checker.specs.Bodies.{labels_of}
use Rattle.c_body_checker.proofs.labels.check_targets.Given as goal

abbrev pub invariant-loop-target : goal.invariant-loop-target
invariant-loop-target l = noted l.findings (target_faults (labels_of l.labels) l.end (drop l.target-index l.targets)) ≡ noted l.fn.findings
    (target_faults (labels_of l.labels) l.end l.targets)
