use Rattle.c_nodes.proofs.RowLaws.{type_rows}
use Rattle.c_nodes.proofs.laws.types_are_in_rows.Goals as goal

pub returns : goal.returns
returns c = type_rows
