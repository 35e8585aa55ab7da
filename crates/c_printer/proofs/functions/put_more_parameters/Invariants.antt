use Rattle.std.proofs.Common.{◌≡◌, drop}
use Rattle.c_printer.specs.Text.{seen}
use Rattle.c_printer.specs.Marks.{put_marks}
use Rattle.c_printer.specs.PutItems.{more_parameters_marks}
use Rattle.c_printer.proofs.functions.put_more_parameters.Given as goal

abbrev pub invariant-loop-parameter : goal.invariant-loop-parameter
invariant-loop-parameter l = put_marks (seen l.out) (more_parameters_marks (drop l.parameter-index l.parameters)) ≡ put_marks (seen l.initial.out) (more_parameters_marks l.parameters)
