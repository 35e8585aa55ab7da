use Rattle.std.proofs.Common.{◌≡◌, [], drop, reverse, take}
use Rattle.c_tree.specs.Unit.{label_faults}
use Rattle.c_value_checker.specs.Noted.{noted}
use Rattle.c_body_checker.specs.Bodies.{labels_of}
use Rattle.c_body_checker.proofs.labels.check_labels.Given as goal

abbrev pub invariant-loop-label : goal.invariant-loop-label
invariant-loop-label l = record {
  labels : labels_of l.table ≡ reverse (take l.label-index l.labels);
  faults : noted l.findings (label_faults (labels_of l.table) (drop l.label-index l.labels)) ≡ noted l.fn.findings (label_faults [] l.labels);
}
