use Rattle.c_tree.specs.Library.{present_rows}
use Rattle.c_body_checker.proofs.NumberLemmas.{row_there, row_nowhere}
use Rattle.c_body_checker.proofs.library.present_row.Goals as goal

pub returns-in-Some : goal.returns-in-Some
returns-in-Some c = row_there c.present_rows.result.now present_rows c.args.number c.in-Some.row.now c.present_rows.ensures c.in-Some.ensures

pub returns-in-None : goal.returns-in-None
returns-in-None c = row_nowhere c.present_rows.result.now present_rows c.args.number c.present_rows.ensures c.in-None.ensures
