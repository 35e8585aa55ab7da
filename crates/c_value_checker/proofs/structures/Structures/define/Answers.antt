use Rattle.std.proofs.Common.{◌∙◌, ap, map, refl, sym}
use Rattle.c_tree.specs.Env.{structure_named}
use Rattle.c_tree.specs.Unit.{with_fields}
use Rattle.c_value_checker.specs.Structures.{field_seen, structure_seen}
use Rattle.c_value_checker.proofs.StructLemmas.{fields_nowhere, fields_there, numbered_defined}
use Rattle.c_value_checker.proofs.structures.Structures.define.Goals as goal

pub returns-in_default : goal.returns-in_default
returns-in_default c =
    sym c.self.view_is
    ∙ fields_nowhere c.self.inside.rows c.args.number (map field_seen c.args.fields) c.args.cells (sym c.in_default.ensures.value)
    ∙ ap (λ l. with_fields l c.args.number (map field_seen c.args.fields) c.args.cells) c.self.view_is

pub invariant_of-self : goal.invariant_of-self
invariant_of-self c = λ name.
    numbered_defined c.self.inside.numbers (map structure_seen c.self.inside.rows) c.args.number (map field_seen c.args.fields) c.args.cells c.self.invariant name
    ∙ ap (λ l. structure_named 0 l name)
    (sym (ap (map structure_seen) c.set.ensures ∙ fields_there c.self.inside.rows c.args.number c.in-Some.structure.now _ (map field_seen c.args.fields) c.args.cells (sym c.in-Some.ensures.value) refl))

pub returns : goal.returns
returns c =
    ap (map structure_seen) c.set.ensures
    ∙ fields_there c.self.inside.rows c.args.number c.in-Some.structure.now _ (map field_seen c.args.fields) c.args.cells (sym c.in-Some.ensures.value) refl
    ∙ ap (λ l. with_fields l c.args.number (map field_seen c.args.fields) c.args.cells) c.self.view_is
