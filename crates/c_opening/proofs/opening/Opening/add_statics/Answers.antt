-- One item more, and all of them.
use Rattle.std.proofs.Common.{subst, arith}
use Rattle.std.proofs.lemmas.List.{take_all}
use Rattle.c_meaning.specs.Runs.{with_statics}
use Rattle.c_opening.specs.Opens.{Becomes, unit_of}
use Rattle.c_opening.proofs.Entries.{outside_stays}
use Rattle.c_opening.proofs.Shown.{static_step}
use Rattle.c_opening.proofs.opening.Opening.add_statics.Goals as goal

pub add_item-requires : goal.add_item-requires
add_item-requires c = outside_stays c.args.self.now c.loop-item.self c.args.scope.now c.loop-item.invariant.unit c.requires

pub loop-item-preserved : goal.loop-item-preserved
loop-item-preserved c =
    static_step c.args.self.now c.loop-item.self c.add_item.new.self c.args.items.now c.loop-item.item-index c.item-item.result
    c.loop-item-test.true c.item-item.is c.loop-item.invariant c.in_ok-add_item.ensures

pub returns : goal.returns
returns c =
    subst (λ xs. Becomes (λ s. with_statics (unit_of c.args.self.now) s xs) c.args.self.now c.loop-item.self)
    (take_all c.loop-item.item-index c.args.items.now (omega arith)) c.loop-item.invariant
