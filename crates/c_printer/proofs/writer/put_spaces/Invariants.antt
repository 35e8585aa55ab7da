use Rattle.std.proofs.Common.{◌≡◌, ◌++◌}
use Rattle.c_printer.specs.Text.{spaces}
use Rattle.c_printer.proofs.writer.put_spaces.Given as goal

abbrev pub invariant-loop : goal.invariant-loop
invariant-loop l = l.out.items ≡ l.initial.out.items ++ spaces l.counter
