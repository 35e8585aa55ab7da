use Rattle.std.proofs.Common.{◌∙◌, map, ap}
use Rattle.c_meaning.specs.Steps.{label_place}
use Rattle.c_resolver.specs.Plans.{label_alone}
use Rattle.c_resolver.proofs.PlanLemmas.{case_step}
use Rattle.c_resolver.proofs.statements.cases.Goals as goal

pub loop-case-preserved : goal.loop-case-preserved
loop-case-preserved c = case_step c.args.kind (map label_alone c.args.labels.now) c.args.cases.now c.loop-case.case-index c.case-item.result
    c.loop-case.codes _ c.push.new.items
    c.loop-case-test.true c.case-item.is c.figure.ensures (c.label_place.ensures
    ∙ ap (λ z. label_place 0 z (map label_alone c.args.labels.now)) c.as_slice.ensures) c.in_ok-push.ensures ∙ c.loop-case.invariant
