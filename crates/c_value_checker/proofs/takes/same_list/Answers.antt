use Rattle.std.proofs.Common.{◌∙◌, ◌+◌, None, ap, get_or, slice_get, sym}
use Rattle.c_value_checker.proofs.TakesLemmas.{at_place}
use Rattle.c_value_checker.proofs.TakesLemmas.{got_within, same_done, same_not, same_short, same_turn}
use Rattle.c_value_checker.proofs.takes.same_list.Goals as goal

pub loop-kind-preserved : goal.loop-kind-preserved
loop-kind-preserved c = record {
  index = ap (λ n. n + 1) c.loop-kind.invariant.index;
  within = got_within c.args.b.now c.loop-kind.kind-index c.in-Some.other.now (ap (slice_get c.args.b.now) (sym c.loop-kind.invariant.index) ∙ sym c.in-Some.ensures);
  same = same_turn c.args.a.now c.args.b.now c.loop-kind.kind-index (get_or c.args.a.now c.loop-kind.kind-index None) c.in-Some.other.now (at_place c.args.a.now c.loop-kind.kind-index None c.loop-kind-test.true) (ap (slice_get c.args.b.now) (sym c.loop-kind.invariant.index) ∙ sym c.in-Some.ensures) (sym c.if-not-same_known.ensures) ∙ c.loop-kind.invariant.same;
}

pub returns-then-not-same_known : goal.returns-then-not-same_known
returns-then-not-same_known c = same_not c.args.a.now c.args.b.now c.loop-kind.kind-index (get_or c.args.a.now c.loop-kind.kind-index None) c.in-Some.other.now (at_place c.args.a.now c.loop-kind.kind-index None c.loop-kind-test.true) (ap (slice_get c.args.b.now) (sym c.loop-kind.invariant.index) ∙ sym c.in-Some.ensures) (sym c.if-not-same_known.ensures) ∙ c.loop-kind.invariant.same

pub returns-in_default : goal.returns-in_default
returns-in_default c = same_short c.args.a.now c.args.b.now c.loop-kind.kind-index (get_or c.args.a.now c.loop-kind.kind-index None) (at_place c.args.a.now c.loop-kind.kind-index None c.loop-kind-test.true) (ap (slice_get c.args.b.now) (sym c.loop-kind.invariant.index) ∙ sym c.in_default.ensures) ∙ c.loop-kind.invariant.same

pub returns : goal.returns
returns c = same_done c.args.a.now c.args.b.now c.loop-kind.kind-index c.loop-kind.index c.loop-kind.invariant.index c.loop-kind-test.false c.loop-kind.invariant.within ∙ c.loop-kind.invariant.same
