use Rattle.std.proofs.Common.{◌∙◌, ◌∷◌, [], map, refl}
use Rattle.c_value_checker.specs.Seen.{seen}
use Rattle.c_resolver.specs.Plans.{slot_seen}
use Rattle.c_resolver.proofs.PlanLemmas.{cells_step, slots_step}
use Rattle.c_resolver.proofs.locals.add_locals.Goals as goal

pub loop-local-preserved : goal.loop-local-preserved
loop-local-preserved c = record {
  slots = slots_step (λ y. y ∷ []) (λ l. l) (λ x l. refl) (seen c.args.environment.now) c.args.locals.now c.loop-local.local-index c.local-item.result
      c.loop-local.at c.in_ok-at.at (map slot_seen c.loop-local.slots) (map slot_seen c.add_local.new.slots)
      c.loop-local-test.true c.local-item.is c.in_ok-at.ensures.slots c.in_ok-at.ensures.cells ∙ c.loop-local.invariant.slots;
  cells = cells_step (λ y. y ∷ []) (λ l. l) (λ x l. refl) (seen c.args.environment.now) c.args.locals.now c.loop-local.local-index c.local-item.result
      c.loop-local.at c.in_ok-at.at c.loop-local-test.true c.local-item.is c.in_ok-at.ensures.cells ∙ c.loop-local.invariant.cells;
}
