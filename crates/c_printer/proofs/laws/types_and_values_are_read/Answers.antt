use Rattle.c_printer.proofs.TypeReading.{type_read}
use Rattle.c_printer.proofs.ValueReading.{value_read}
use Rattle.c_printer.proofs.laws.types_and_values_are_read.Goals as goal

pub returns-clause-types : goal.returns-clause-types
returns-clause-types c = λ ns anyhow w x r. type_read ns anyhow r

pub returns-clause-values : goal.returns-clause-values
returns-clause-values c = λ style ns constant w e r. value_read style ns constant r
