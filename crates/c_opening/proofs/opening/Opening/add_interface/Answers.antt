-- The function is found by its name.
use Rattle.std.proofs.Common.{◌∙◌, ap}
use Rattle.std.proofs.lemmas.Result.{on_ok_weaker}
use Rattle.c_opening.specs.Opens.{cell_of_number}
use Rattle.c_opening.proofs.Entries.{routine_is, interface_added, interface_refused}
use Rattle.c_opening.proofs.opening.Opening.add_interface.Goals as goal

pub returns-in-Some : goal.returns-in-Some
returns-in-Some c =
    on_ok_weaker c.add_static.result (interface_added c.args.self.now c.add_static.new.self c.args.table.now c.in-Some.number
    (routine_is c.args.self.now c.args.table.now.init.text c.as_slice-2.result.now c.as_slice.result.now c.number_in.result c.as_slice.ensures c.as_slice-2.ensures c.number_in.ensures
    ∙ ap cell_of_number c.in-Some.is)) c.add_static.ensures

pub returns-in-None : goal.returns-in-None
returns-in-None c =
    on_ok_weaker c.refuse.result (interface_refused c.args.self.now c.refuse.new.self c.args.table.now
    (routine_is c.args.self.now c.args.table.now.init.text c.as_slice-2.result.now c.as_slice.result.now c.number_in.result c.as_slice.ensures c.as_slice-2.ensures c.number_in.ensures
    ∙ ap cell_of_number c.in-None.is)) c.refuse.ensures
