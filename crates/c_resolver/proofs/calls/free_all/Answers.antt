use Rattle.std.proofs.Common.{◌∙◌, ◌∷◌, ◌++◌, [], map, refl, ap}
use Rattle.c_code.specs.Statements.{free_code}
use Rattle.c_resolver.specs.Shown.{looks}
use Rattle.c_resolver.proofs.ListLemmas.{kept_step}
use Rattle.c_resolver.proofs.calls.free_all.Goals as goal

pub loop-value-preserved : goal.loop-value-preserved
loop-value-preserved c = kept_step (λ x. free_code (looks c.args.tables.now c.args.scope.now) x ∷ [])
    (map (free_code (looks c.args.tables.now c.args.scope.now))) (λ x l. refl) c.args.values.now c.loop-value.value-index c.value-item.result
    c.loop-value.codes c.push.new.items
    c.loop-value-test.true c.value-item.is (c.in_ok-push.ensures ∙ ap (λ z. c.loop-value.codes ++ z ∷ []) c.in_ok-code.ensures) ∙ c.loop-value.invariant
