use Rattle.std.proofs.Common.{◌∙◌, ap, refl}
use Rattle.c_meaning.specs.State.{Scope}
use Rattle.c_resolver.specs.Routines.{all_known, known_behind}
use Rattle.c_resolver.specs.Shown.{scope_seen, tables_seen}
use Rattle.c_resolver.proofs.ListLemmas.{passed_step}
use Rattle.c_resolver.proofs.functions.all_known.Goals as goal

pub loop-item-preserved : goal.loop-item-preserved
loop-item-preserved c = record {
  known = passed_step (known_behind (scope_seen c.args.scope.now).env (tables_seen c.args.tables.now))
      (all_known (scope_seen c.args.scope.now).env (tables_seen c.args.tables.now)) (λ s x l. refl)
      c.args.items.now c.loop-item.item-index c.item-item.result c.loop-item.known c.add_item.new.known c.loop-item-test.true c.item-item.is
      (c.in_ok-add_item.ensures.code ∙ ap (λ (z : Scope). known_behind z.env (tables_seen c.args.tables.now) c.loop-item.known c.item-item.result)
      c.loop-item.invariant.names)
      ∙ c.loop-item.invariant.known;
  names = c.in_ok-add_item.ensures.names ∙ c.loop-item.invariant.names;
}
