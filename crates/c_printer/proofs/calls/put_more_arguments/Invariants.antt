use Rattle.std.proofs.Common.{◌≡◌, drop}
use Rattle.c_printer.specs.Text.{seen}
use Rattle.c_printer.specs.Marks.{put_marks}
use Rattle.c_printer.specs.PutValues.{more_arguments_marks}
use Rattle.c_printer.proofs.calls.put_more_arguments.Given as goal

abbrev pub invariant-loop-value : goal.invariant-loop-value
invariant-loop-value l = put_marks (seen l.out) (more_arguments_marks l.brackets (drop l.value-index l.values)) ≡ put_marks (seen l.initial.out) (more_arguments_marks l.brackets l.values)
