use Rattle.std.proofs.Common.{◌∙◌, arith}
use Rattle.std.proofs.lemmas.Grind.{common_steps}
use Rattle.c_constants.specs.Told.{worth_told}
use Rattle.c_constants.proofs.Turns.{prefix_turn}
use Rattle.c_value_checker.specs.Seen.{seen}
use Rattle.c_value_checker.proofs.ScopeLemmas.{last_of}
use Rattle.c_constants.proofs.constants.prefixes_worth.Goals as goal

pub loop-operators-preserved : goal.loop-operators-preserved
loop-operators-preserved c = record {
  within = grind (arith, common_steps, c.loop-operators.invariant.within);
  worths = prefix_turn (seen c.args.environment.now) c.loop-operators.operators.now _ c.operator-item.result c.loop-operators.kind c.in_ok-kind.kind (worth_told c.loop-operators.worth) (worth_told c.in_ok-worth.worth)
      (last_of c.loop-operators.operators.now _ c.in-len1-up.len_at_least c.operator-item.is) c.in_ok-kind.ensures c.in_ok-worth.ensures
      ∙ c.loop-operators.invariant.worths;
}
