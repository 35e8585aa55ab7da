use Rattle.std.proofs.Common.{◌≡◌, drop}
use Rattle.c_printer.specs.Text.{seen}
use Rattle.c_printer.specs.Marks.{put_marks}
use Rattle.c_printer.specs.PutValues.{prefixes_marks}
use Rattle.c_printer.proofs.values.put_prefixes.Given as goal

abbrev pub invariant-loop-operator : goal.invariant-loop-operator
invariant-loop-operator l = put_marks (seen l.out) (prefixes_marks (drop l.operator-index l.operators)) ≡ put_marks (seen l.initial.out) (prefixes_marks l.operators)
