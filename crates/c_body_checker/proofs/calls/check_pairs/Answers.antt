use Rattle.std.proofs.Common.{◌∙◌, ◌+◌, ◌==◌, ap, get_or, length}
use Rattle.c_body_checker.proofs.CallLemmas.{at_place, blank, part_turn}
use Rattle.c_body_checker.proofs.calls.check_pairs.Goals as goal

pub loop-argument-preserved : goal.loop-argument-preserved
loop-argument-preserved c = (
  ap (λ n. n + 1) c.loop-argument.invariant.0,
  part_turn c.loop-argument.is_name (c.loop-argument.count + 1 == length c.args.arguments.now) c.args.arguments.now c.loop-argument.argument-index
      (get_or c.args.arguments.now c.loop-argument.argument-index blank)
      c.loop-argument.findings c.check_pair_part.new.findings c.loop-argument-test.true
      (at_place c.args.arguments.now c.loop-argument.argument-index blank c.loop-argument-test.true)
      (ap (λ n. n + 1 == length c.args.arguments.now) c.loop-argument.invariant.0) c.check_pair_part.ensures
      ∙ c.loop-argument.invariant.1,
)
