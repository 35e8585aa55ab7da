use Rattle.c_printer.specs.Marks.{Wrote}
use Rattle.c_printer.specs.PutValues.{stars}
use Rattle.c_printer.proofs.types.put_stars.Given as goal

abbrev pub invariant-loop : goal.invariant-loop
invariant-loop l = Wrote l.initial.out (stars l.counter) l.out
