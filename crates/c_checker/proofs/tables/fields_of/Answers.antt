use Rattle.c_value_checker.proofs.NotedLemmas.{dropped}
use Rattle.std.proofs.Common.{refl}
use Rattle.c_tree.specs.declared.code.Local.{Local}
use Rattle.c_tree.specs.Env.{kind_of}
use Rattle.c_tree.specs.Unit.{fields_declared}
use Rattle.c_value_checker.specs.Seen.{seen}
use Rattle.c_value_checker.specs.Structures.{field_seen}
use Rattle.c_checker.proofs.Steps.{kept_step}
use Rattle.c_checker.proofs.tables.fields_of.Goals as goal

pub loop-local-preserved : goal.loop-local-preserved
loop-local-preserved c = kept_step field_seen (λ (l : Local). record { name = l.name.text; kind = kind_of (seen c.args.environment.now) l.declared }) (fields_declared (seen c.args.environment.now)) (λ x l. refl)
    c.args.locals.now c.loop-local.local-index c.local-item.result c.loop-local.fields c.push_field.new.fields c.in_ok-field.field _ (dropped c.args.locals.now c.loop-local.local-index c.local-item.result c.loop-local-test.true c.local-item.is) c.in_ok-field.ensures c.in_ok-push_field.ensures c.loop-local.invariant
