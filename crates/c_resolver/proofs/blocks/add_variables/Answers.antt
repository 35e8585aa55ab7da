use Rattle.std.proofs.Common.{◌∙◌, ◌∷◌, ap, map, refl}
use Rattle.c_meaning.specs.Code.{slot_at, with_variables}
use Rattle.c_resolver.specs.Plans.{slot_seen}
use Rattle.c_resolver.specs.Shown.{variable_seen}
use Rattle.c_resolver.proofs.ListLemmas.{passed_step}
use Rattle.c_resolver.proofs.blocks.add_variables.Goals as goal

pub loop-local-preserved : goal.loop-local-preserved
loop-local-preserved c =
    passed_step (λ vs y. record { name = y.name.text; at = slot_at (map slot_seen c.args.slots.now) y.name.span.start } ∷ vs)
    (with_variables (map slot_seen c.args.slots.now)) (λ s x l. refl)
    c.args.locals.now c.loop-local.local-index c.local-item.result (map variable_seen c.loop-local.variables) (map variable_seen c.push.new.self)
    c.loop-local-test.true c.local-item.is
    (ap (map variable_seen) c.in_ok-push.ensures.pushed ∙ (λ i. record { name = c.as_slice.ensures i; at = c.slot_at-at.ensures i } ∷ map variable_seen
    c.loop-local.variables))
    ∙ c.loop-local.invariant
