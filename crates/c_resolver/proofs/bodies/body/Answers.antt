use Rattle.std.proofs.Common.{◌∙◌, ◌++◌, ap, map}
use Rattle.c_meaning.specs.Code.{locals_of, parameter_kinds, slots}
use Rattle.c_code.specs.Statements.{taken}
use Rattle.c_value_checker.specs.Seen.{seen}
use Rattle.c_resolver.specs.Plans.{cells_in, slot_seen}
use Rattle.c_resolver.specs.Shown.{tables_seen, variable_seen}
use Rattle.c_resolver.proofs.BodyLemmas.{body_told}
use Rattle.c_resolver.specs.declared.statements.Plan.{Plan}
use Rattle.c_resolver.proofs.bodies.body.Goals as goal

pub returns-clause-code : goal.returns-clause-code
returns-clause-code c = λ none.
    body_told (seen c.args.scope.now.environment) (tables_seen c.args.tables.now) c.args.gives c.in_ok-plan.plan.gives c.args.function.now
    (map variable_seen c.args.scope.now.variables) c.in_ok-parameters.parameters
    c.in_ok-first.first c.in_ok-cells.cells (map slot_seen c.in_ok-plan.plan.slots) c.in_ok-plan.plan.labels c.in_ok-statements.statements
    none
    (c.in_ok-parameters.ensures ∙ ap (λ z. map (taken (seen c.args.scope.now.environment)) (parameter_kinds (seen c.args.scope.now.environment) z))
    c.as_slice.ensures)
    (c.in_ok-first.ensures ∙ ap cells_in c.as_slice-2.ensures)
    (ap (λ (p : Plan). map slot_seen p.slots) c.in_ok-plan.ensures ∙ c.in_ok-cells.ensures.slots
    ∙ ap (λ z. map slot_seen z ++ slots (seen c.args.scope.now.environment) c.in_ok-first.first (locals_of c.args.function.now.body)) c.new-slots.ensures)
    c.in_ok-cells.ensures.cells
    (ap (λ (p : Plan). p.gives) c.in_ok-plan.ensures)
    (ap (λ (p : Plan). p.labels) c.in_ok-plan.ensures)
    c.in_ok-statements.ensures.code
