use Rattle.std.proofs.Common.{◌∙◌, ◌++◌, ◌∷◌, [], ap, map, refl}
use Rattle.c_meaning.specs.Code.{parameter_kinds}
use Rattle.c_meaning.specs.Layout.{kind}
use Rattle.c_code.specs.Statements.{taken}
use Rattle.c_value_checker.specs.Seen.{seen}
use Rattle.c_resolver.proofs.ListLemmas.{kept_step}
use Rattle.c_resolver.proofs.bodies.parameters_taken.Goals as goal

pub loop-parameter-preserved : goal.loop-parameter-preserved
loop-parameter-preserved c =
    kept_step (λ p. taken (seen c.args.environment.now) (kind (seen c.args.environment.now) p.declared) ∷ [])
    (λ l. map (taken (seen c.args.environment.now)) (parameter_kinds (seen c.args.environment.now) l)) (λ x l. refl)
    c.args.parameters.now c.loop-parameter.parameter-index c.parameter-item.result c.loop-parameter.found c.push.new.items c.loop-parameter-test.true
    c.parameter-item.is
    (c.in_ok-push.ensures ∙ ap (λ z. c.loop-parameter.found ++ z ∷ []) (c.taken.ensures ∙ ap (taken (seen c.args.environment.now)) c.in_ok-kind.ensures))
    ∙ c.loop-parameter.invariant
