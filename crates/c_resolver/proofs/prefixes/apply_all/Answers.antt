use Rattle.std.proofs.Common.{◌∙◌, arith}
use Rattle.std.proofs.lemmas.Grind.{common_steps}
use Rattle.c_value_checker.specs.Seen.{seen}
use Rattle.c_value_checker.proofs.ScopeLemmas.{last_of}
use Rattle.c_resolver.specs.Shown.{found_seen}
use Rattle.c_resolver.proofs.StepLemmas.{prefix_turn}
use Rattle.c_resolver.proofs.prefixes.apply_all.Goals as goal

pub loop-operators-preserved : goal.loop-operators-preserved
loop-operators-preserved c = record {
  within = grind (arith, common_steps, c.loop-operators.invariant.within);
  told = prefix_turn (seen c.args.environment.now) c.loop-operators.operators.now _ c.operator-item.result
      (found_seen (seen c.args.environment.now) c.loop-operators.found) (found_seen (seen c.args.environment.now) c.in_ok-found.found)
      (last_of c.loop-operators.operators.now _ c.in-len1-up.len_at_least c.operator-item.is) c.in_ok-found.ensures
      ∙ c.loop-operators.invariant.told;
}
