-- What has a block is a variable or an interface's table.
use Rattle.std.proofs.Common.{sym, subst, OnOk}
use Rattle.c_meaning.specs.Runs.{with_static}
use Rattle.c_opening.specs.Opens.{Becomes, unit_of}
use Rattle.c_opening.proofs.opening.Opening.add_item.Goals as goal

pub returns-in-Variable : goal.returns-in-Variable
returns-in-Variable c =
    subst (λ i. OnOk c.add_variable.result (Becomes (λ s. with_static (unit_of c.args.self.now) s i) c.args.self.now c.add_variable.new.self))
    (sym c.in-Variable.is) c.add_variable.ensures

pub returns-in-InterfaceTable : goal.returns-in-InterfaceTable
returns-in-InterfaceTable c =
    subst (λ i. OnOk c.add_interface.result (Becomes (λ s. with_static (unit_of c.args.self.now) s i) c.args.self.now c.add_interface.new.self))
    (sym c.in-InterfaceTable.is) c.add_interface.ensures
