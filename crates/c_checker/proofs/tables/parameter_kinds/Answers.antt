use Rattle.std.proofs.Common.{refl}
use Rattle.c_tree.specs.declared.unit.Parameter.{Parameter}
use Rattle.c_tree.specs.Env.{kind_of}
use Rattle.c_tree.specs.Unit.{parameter_kinds}
use Rattle.c_value_checker.specs.Seen.{seen}
use Rattle.c_checker.proofs.Steps.{same_step}
use Rattle.c_checker.proofs.tables.parameter_kinds.Goals as goal

pub loop-parameter-preserved : goal.loop-parameter-preserved
loop-parameter-preserved c = same_step (λ (p : Parameter). kind_of (seen c.args.environment.now) p.declared) (parameter_kinds (seen c.args.environment.now)) (λ x l. refl)
    c.args.parameters.now c.loop-parameter.parameter-index c.parameter-item.result c.loop-parameter.kinds c.push_kind.new.kinds c.in_ok-kind.kind _ c.loop-parameter-test.true c.parameter-item.is c.in_ok-kind.ensures c.in_ok-push_kind.ensures c.loop-parameter.invariant
