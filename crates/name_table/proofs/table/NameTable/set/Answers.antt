-- The entry that is changed keeps its name and what it hides.
use Rattle.std.proofs.Common.{◌∙◌, refl, ap, sym, length, subst, List, ◌≤◌, arith}
use Rattle.std.proofs.lemmas.Option.{slice_get_read}
use Rattle.std.specs.Prelude.{ℕ}
use Rattle.name_table.specs.Names.{changed}
use Rattle.name_table.specs.Index.{listed, IsIndexed}
use Rattle.name_table.proofs.Linked.{listed-set, linked-set, indexed-changed, changed-past, length-listed}
use Rattle.name_table.proofs.table.NameTable.set.Goals as goal

pub returns-in_default : goal.returns-in_default
returns-in_default g c =
    let past : length c.self.inside.entries.items ≤ c.args.position = c.in_default.ensures.item.3 in
    let long : length (listed c.self.inside.entries.items) ≤ c.args.position = omega (arith, length-listed c.self.inside.entries.items) in
    sym (changed-past c.args.position c.args.meaning (listed c.self.inside.entries.items) long) ∙ ap (changed c.args.position c.args.meaning) c.self.view_is

pub invariant_of-self-2 : goal.invariant_of-self-2
invariant_of-self-2 g c =
    let there = slice_get_read c.self.inside.entries.items (length c.self.inside.entries.items) c.args.position c.in-Some.entry.now refl c.in-Some.ensures.item.3.0 c.in-Some.ensures.value in
    let Indexed = λ (es : List (List ℕ × g.row.T.Denot)). IsIndexed c.self.inside.index es in (
      linked-set c.self.inside.entries.items c.args.position c.args.meaning c.in-Some.entry.now there c.self.invariant.0,
      subst Indexed (sym (listed-set c.self.inside.entries.items c.args.position c.args.meaning c.in-Some.entry.now there))
          (indexed-changed c.self.inside.index c.args.position c.args.meaning (listed c.self.inside.entries.items) c.self.invariant.1),
    )

pub returns : goal.returns
returns g c =
    let there = slice_get_read c.self.inside.entries.items (length c.self.inside.entries.items) c.args.position c.in-Some.entry.now refl c.in-Some.ensures.item.3.0 c.in-Some.ensures.value in
    listed-set c.self.inside.entries.items c.args.position c.args.meaning c.in-Some.entry.now there ∙ ap (changed c.args.position c.args.meaning) c.self.view_is
