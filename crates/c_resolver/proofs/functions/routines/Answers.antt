use Rattle.std.proofs.Common.{◌∙◌, [], ap, refl, sym}
use Rattle.c_meaning.specs.Layout.{declared}
use Rattle.c_meaning.specs.State.{Scope}
use Rattle.c_resolver.specs.Routines.{items_have_code}
use Rattle.c_resolver.specs.Shown.{scope_seen, tables_seen}
use Rattle.c_resolver.proofs.RoutineLemmas.{calls_told, routines_found}
use Rattle.c_resolver.proofs.functions.routines.Goals as goal

pub returns-in-Ok-clause-code : goal.returns-in-Ok-clause-code
returns-in-Ok-clause-code c =
    routines_found (declared c.args.tables.now.unit.now) (scope_seen c.args.scope.now).env
    (tables_seen c.args.tables.now) c.args.tables.now.unit.now.items c.as_slice-items.result.now c.in-Ok.found
    (ap (λ (z : Scope). z.env) c.requires) c.as_slice-items.ensures c.in-Ok.ensures

pub returns-in-Ok-clause-calls : goal.returns-in-Ok-clause-calls
returns-in-Ok-clause-calls c =
    calls_told (declared c.args.tables.now.unit.now) [] c.args.tables.now.unit.now.items refl
    (ap items_have_code (sym c.as_slice-items.ensures) ∙ sym c.in_default.ensures)
