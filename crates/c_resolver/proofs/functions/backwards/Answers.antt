use Rattle.std.proofs.Common.{◌∙◌}
use Rattle.c_resolver.proofs.RoutineLemmas.{back_turn}
use Rattle.c_resolver.proofs.functions.backwards.Goals as goal

pub loop-one-preserved : goal.loop-one-preserved
loop-one-preserved c =
    back_turn c.loop-one.left c.pop.new.self c.in-Some.one (record { is_void = c.is_void.result; body = c.in-Some.one.body }) c.loop-one.found.items
    c.add.new.items.items
    c.in-Some.ensures (λ i. record { is_void = c.is_void.ensures i; body = c.in-Some.one.body }) c.in_ok-add.ensures
    ∙ c.loop-one.invariant
