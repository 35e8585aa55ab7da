-- What is found is the latest entry with the name.
use Rattle.std.proofs.Common.{◌≡◌, ◌∙◌, ap, Some, get_or, arith, length}
use Rattle.name_table.specs.Index.{position, listed}
use Rattle.name_table.specs.Names.{latest}
use Rattle.name_table.proofs.Linked.{found_within, found_there}
use Rattle.name_table.proofs.table.NameTable.find.Goals as goal

pub returns-in_err-entry : goal.returns-in_err-entry
returns-in_err-entry g c =
    let at : Some c.in_ok-position.field-0.now ≡ position c.args.name.now (listed c.self.inside.entries.items) = c.in_ok-position.ensures.value ∙ c.self.invariant.1 c.args.name.now in
    let inside = found_within c.args.name.now c.self.inside.entries.items c.in_ok-position.field-0.now at in
    let past = c.in_err-entry.ensures.lookup.3 in
    let same = ap length c.deref.ensures.value in
    absurd (omega arith)

pub returns : goal.returns
returns g c =
    let at : Some c.in_ok-position.field-0.now ≡ position c.args.name.now (listed c.self.inside.entries.items) = c.in_ok-position.ensures.value ∙ c.self.invariant.1 c.args.name.now in
    found_there c.args.name.now c.self.inside.entries.items c.in_ok-position.field-0.now c.in_ok-entry.entry.now at
    (c.in_ok-entry.ensures.lookup.1 ∙ ap (λ xs. get_or xs c.in_ok-position.field-0.now c.in_ok-entry.entry.now) c.deref.ensures.value) ∙ ap (latest c.args.name.now) c.self.view_is
